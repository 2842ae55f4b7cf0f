-- A node that starts continues from the history's newest published state, or from a later one.
use Rattle.std.proofs.Common.{refl, subst, ◌⊎◌, inl, inr, ⊎_elim, ◌≡◌, ℕ, ◌<◌, ◌≤◌, sym, ap, arith, ltb-true, ltb-false, List, [], ◌∷◌}
use Rattle.std.specs.Prelude.{true, false, nat_lt, Option, Some, None}
use Rattle.ct_node.specs.declared.state.State.{State}
use Rattle.ct_node.specs.declared.starting.Point.{Point}
use Rattle.ct_node.specs.declared.starting.Other.{Other}
use Rattle.ct_node.specs.declared.starting.Found.{Found}
use Rattle.ct_node.specs.Worlds.{Has, Made, World, IsChain, IsSoundWorld}
use Rattle.ct_node.specs.Sweeps.{SweptWorld}
use Rattle.ct_node.specs.Starts.{IsNoFurther, IfAny, IsNoOther, NoneIsAhead}
use Rattle.ct_node.specs.TakeUps.{point_of, IsReadTruly, StartsTakeUpNewest, IsPointOf, IsRootedOf, StepsAdd, StartsGoOn}
use Rattle.ct_node.proofs.Ahead.{goes_behind_none}
use Rattle.ct_node.proofs.Sound.{worlds_are_sound, pasts_are_chains, holds_newest}
use Rattle.ct_node.proofs.Swept.{sweeps_keep}

-- ---- the state that a node continues from is ahead
le_or_lt : (m n : ℕ) → (m ≤ n) ⊎ (n < m)
le_or_lt m n =
    elim (nat_lt n m) as (λ t. nat_lt n m ≡ t → (m ≤ n) ⊎ (n < m)) [
      | true ↦ λ q. inr (ltb-true n m q)
      | false ↦ λ q. inl (ltb-false n m q)
    ] refl

no_later : (q p : Point) → IsNoFurther q p → q.moment ≤ p.moment
no_later q p (inl e) = let m : q.moment ≡ p.moment = ap (λ (z : Point). z.moment) e in omega (arith, m)
no_later q p (inr h) = omega (arith, h.1)

module _ (size : State → ℕ) (w : SweptWorld) (k : State) (f : Found) (read : IsReadTruly size w k f) (none : NoneIsAhead f (point_of size k)) where
  standing : (l : State) → Has l w.heads → l.moment ≤ k.moment
  standing l h =
      ⊎_elim
      (λ (c : l.moment ≤ k.moment). c)
      (λ (x : (q : Other) × (f.listed ≡ Some q) × (l.moment ≤ q.at.moment)).
      let other : IsNoOther (point_of size k) x.0 = subst (IfAny (IsNoOther (point_of size k))) x.1 none.listed in
      omega (arith, x.2, no_later x.0.at (point_of size k) other.0))
      (read.listed l h)

  put : ((l : State) → Has l w.world.heads → (m : State) × Has m w.heads × (l.moment ≤ m.moment)) → (l : State) → Has l w.world.heads
      → l.moment ≤ k.moment
  put reaches l h = let r = reaches l h in omega (arith, r.2, standing r.0 r.1)

pub starts_take_up_newest : StartsTakeUpNewest
starts_take_up_newest count size tile b hs w i leads k f read goes =
    let kept = sweeps_keep count tile b hs w i leads in
    let s : IsSoundWorld count w.world = worlds_are_sound count b kept.0.0 w.world i kept.0.1 in
    let none : NoneIsAhead f (point_of size k) = (goes_behind_none f (point_of size k) read.register).0 goes in
    let heads : (l : State) → Has l w.world.heads → l.moment ≤ k.moment = put size w k f read none kept.1.heads in
    record {
      heads = heads;
      answered = λ l h. heads l (s.answered l h);
      past =
          λ l h.
          ⊎_elim
          (λ (e : l ≡ w.world.held).
          ⊎_elim
          (λ (c : l.moment ≤ k.moment). inl c)
          (λ (c : k.moment < l.moment). inr (e, λ j. absurd (omega (arith, c, heads l j))))
          (le_or_lt l.moment k.moment))
          (λ (j : Has l w.world.heads). inl (heads l j))
          (s.rolled l h);
    }

-- ---- a node that finds only things from the history continues
any_weaker : {A : Type 0} (P Q : A → Type 0) → ((x : A) → P x → Q x) → (o : Option A) → IfAny P o → IfAny Q o
any_weaker P Q f None h = tt
any_weaker P Q f (Some x) h = f x h

module _ (size : State → ℕ) (b : State) (made : List Made) (adds : StepsAdd size made) where
  chain_sizes : (h : State) (past : List State) → IsChain b made (h ∷ past) → (l : State) → Has l (h ∷ past) → size l ≤ size h
  unfolding IsChain
  chain_sizes h [] c l (inl e) = let s : size l ≡ size h = ap size e in omega (arith, s)
  chain_sizes h [] c l (inr j) = absurd j
  chain_sizes h (k ∷ rest) c l (inl e) = let s : size l ≡ size h = ap size e in omega (arith, s)
  chain_sizes h (k ∷ rest) c l (inr j) = omega (arith, adds (record { seen = k; new = h }) c.0, chain_sizes k rest c.1 l j)

pub starts_go_on : StartsGoOn
starts_go_on count size tile b hs w i leads adds f all =
    let kept = sweeps_keep count tile b hs w i leads in
    let past = kept.0.0 in
    let v : World = w.world in
    let s : IsSoundWorld count v = worlds_are_sound count b past v i kept.0.1 in
    let top = holds_newest count b past v i kept.0.1 in
    let chain : IsChain b v.made (v.held ∷ top.0) = subst (IsChain b v.made) top.1 (pasts_are_chains count b past v i kept.0.1) in
    let p : Point = point_of size v.held in
    let no_further : (l : State) → Has l v.past → IsNoFurther (point_of size l) p =
    λ l h.
    ⊎_elim
    (λ (e : l ≡ v.held). inl (ap (point_of size) e))
    (λ (c : l.moment ≤ v.held.before).
    inr (chain_sizes size b v.made adds v.held top.0 chain l (subst (λ xs. Has l xs) top.1 h), omega (arith, c, s.later)))
    (s.order l h) in
    let point : (q : Point) → IsPointOf size v q → IsNoFurther q p =
    λ q x. subst (λ z. IsNoFurther z p) (sym x.2) (no_further x.0 x.1) in
    let other : (o : Other) → IsRootedOf size v o → IsNoOther p o = λ o x. (point o.at x.0, x.1) in
    (goes_behind_none f p all.register).1
    (record {
      seen = any_weaker (IsRootedOf size v) (IsNoOther p) other f.seen all.seen;
      published = any_weaker (IsRootedOf size v) (IsNoOther p) other f.published all.published;
      listed = any_weaker (IsRootedOf size v) (IsNoOther p) other f.listed all.listed;
      guard = λ g. any_weaker (IsRootedOf size v) (IsNoOther p) other f.guard (all.guard g);
      guards = all.guards;
    })
