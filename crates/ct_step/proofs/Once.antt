-- The list of leaves that all steps carry on has at most one leaf for each identity after those that were known.
use Rattle.std.proofs.Common.{◌≡◌, ◌∙◌, ℕ, suc, ◌-◌, ◌<◌, Bool, true, false, cond, List, [], ◌∷◌, ◌++◌, length, take, get_or, map, flat_map, All, AllPairs, Contains, sym, refl, ap, subst, arith, inl, inr, append_assoc, length-append}
use Rattle.std.proofs.lemmas.List.{take_at, drop_at, map-append, length-map}
use Rattle.std.proofs.lemmas.List.Elements.{All-nil, All-head, All-tail, All-append, All-map, All-weaker}
use Rattle.ct_codec.specs.Bytes.{num, vec}
use Rattle.ct_codec.specs.Leaf.{index_extension}
use Rattle.ct_codec.specs.Submitted.{Submitted, entry_of, identity_of}
use Rattle.ct_codec.proofs.Refusals.{length-num}
use Rattle.ct_step.specs.Leaves.{indexed_leaves}
use Rattle.ct_step.specs.Growths.{IsState}
use Rattle.ct_step.specs.History.{Attempt, AreAttempts, taken}
use Rattle.ct_step.specs.declared.growth.State.{State}
use Rattle.ct_step.proofs.Agree.{new_leaves, Carried, carried_none, carried_more}
use Rattle.ct_step.specs.Identities.{identity_of_leaf, LeavesKeepIdentities, AreApart, AreNewFrom}
use Rattle.ct_step.specs.Misses.{LookedUp, looked_up_attempts, taken_looked_up, StoresAll, OneEntryAnIdentity}
use Rattle.ct_step.proofs.Lists.{AllPairs-first, AllPairs-rest, AllPairs-append, pairs_behind}

-- ---- the identity of a leaf
pub leaves_keep_identities : LeavesKeepIdentities
unfolding identity_of_leaf
leaves_keep_identities t i s =
    let E = identity_of s in
    let n = num 5 i in
    let x = index_extension i in
    let front = 0 ∷ 0 ∷ num 8 t in
    let whole = front ++ (E ++ vec 2 x) in
    let tail : length (vec 2 x) ≡ 10 =
    omega (arith, length-append (num 2 (length x)) x, length-num 2 (length x), length-append (num 2 (length n)) n, length-num 2 (length n), length-num 5 i) in
    let ten : length front ≡ 10 = omega (arith, length-num 8 t) in
    let count : length E ≡ length whole - 20 = omega (arith, length-append front (E ++ vec 2 x), length-append E (vec 2 x), ten, tail) in
    ap (take (length whole - 20)) (drop_at front (E ++ vec 2 x) 10 ten) ∙ take_at E (vec 2 x) (length whole - 20) count

new_identities : (t i : ℕ) (batch : List Submitted) → map identity_of_leaf (indexed_leaves t i (map entry_of batch)) ≡ map identity_of batch
unfolding indexed_leaves
new_identities t i [] = refl
new_identities t i (s ∷ batch) = ap (λ x. x ∷ map identity_of_leaf (indexed_leaves t (suc i) (map entry_of batch))) (leaves_keep_identities t i s)
    ∙ ap (λ r. identity_of s ∷ r) (new_identities t (suc i) batch)

-- ---- the identities that the steps add
abbrev pub step_identities : Attempt → List (List ℕ)
step_identities a = map identity_of a.batch

-- the leaves after the known ones, and their identities
pub record Extends (H : List ℕ → List ℕ) (since : ℕ) (known Z : List (List ℕ)) (steps : List Attempt) : Type 0 where
  pub carried : Carried H since (length known) (known ++ Z) steps
  pub identities : map identity_of_leaf Z ≡ flat_map step_identities steps

extends_from : (H : List ℕ → List ℕ) (held : State) (known : List (List ℕ)) (attempts : List Attempt) → IsState H held known → AreAttempts H held attempts
    → (Z : List (List ℕ)) × Extends H held.timestamp known Z (taken attempts)
unfolding AreAttempts
extends_from H held known [] s made = ([], record { carried = carried_none H held.timestamp (length known) (known ++ []); identities = refl })
extends_from H held known (a ∷ rest) s (made, inl (took, seen, more)) =
    let g = made.1 known (subst (λ (x : State). IsState H x known) (sym seen) s) in
    let N = new_leaves known a in
    let behind = extends_from H a.growth.state (known ++ N) rest g.state more in
    let Z = behind.0 in
    let e : (known ++ N) ++ Z ≡ known ++ (N ++ Z) = append_assoc known N Z in
    let since : held.timestamp < a.now = omega (arith, made.0.0, ap (λ (x : State). x.timestamp) seen) in
    let kept : taken (a ∷ rest) ≡ a ∷ taken rest = ap (λ b. cond b (a ∷ taken rest) (taken rest)) took in
    let steps : Extends H held.timestamp known (N ++ Z) (a ∷ taken rest) = record {
      carried = subst (λ (D : List (List ℕ)). Carried H held.timestamp (length known) D (a ∷ taken rest)) e
          (carried_more H held.timestamp known Z a (taken rest) since g behind.1.carried);
      identities = map-append identity_of_leaf N Z ∙ ap (λ x. x ++ map identity_of_leaf Z) (new_identities a.now (length known) a.batch)
          ∙ ap (λ x. step_identities a ++ x) behind.1.identities;
    } in
    (N ++ Z, subst (Extends H held.timestamp known (N ++ Z)) (sym kept) steps)
extends_from H held known (a ∷ rest) s (made, inr (left, more)) =
    let behind = extends_from H held known rest s more in
    let kept : taken (a ∷ rest) ≡ taken rest = ap (λ b. cond b (a ∷ taken rest) (taken rest)) left in
    (behind.0, subst (Extends H held.timestamp known behind.0) (sym kept) behind.1)

-- the taken attempts of those that were looked up
kept_of_looked_up : (took : Bool) (b : LookedUp) (x : List Attempt) (y : List LookedUp) → x ≡ looked_up_attempts y
    → cond took (b.attempt ∷ x) x ≡ looked_up_attempts (cond took (b ∷ y) y)
kept_of_looked_up true b x y e = ap (λ z. b.attempt ∷ z) e
kept_of_looked_up false b x y e = e

taken_attempts : (attempts : List LookedUp) → taken (looked_up_attempts attempts) ≡ looked_up_attempts (taken_looked_up attempts)
taken_attempts [] = refl
taken_attempts (b ∷ rest) =
    kept_of_looked_up b.attempt.took b (taken (looked_up_attempts rest)) (taken_looked_up rest) (taken_attempts rest)

-- ---- true misses
abbrev Differ : List ℕ → List ℕ → Type 0
Differ x y = ¬ (x ≡ y)

abbrev added : List LookedUp → List (List ℕ)
added steps = flat_map step_identities (looked_up_attempts steps)

abbrev TrueMiss : LookedUp → Type 0
TrueMiss b = All (λ s. ¬ (Contains b.stored (identity_of s))) b.attempt.batch

-- an identity that the deduplication index had before each of these steps differs from all that they add
missed : (x : List ℕ) (steps : List LookedUp) → All (λ b. Contains b.stored x) steps → All TrueMiss steps → All (Differ x) (added steps)
missed x [] has miss = All-nil (Differ x)
missed x (b ∷ steps) has miss =
    let here = All-head (λ c. Contains c.stored x) b steps has in
    All-append (Differ x) (map identity_of b.attempt.batch) (added steps)
    (All-map (Differ x) identity_of b.attempt.batch
    (All-weaker (λ s. ¬ (Contains b.stored (identity_of s))) (λ s. Differ x (identity_of s)) (λ s no e. no (subst (Contains b.stored) e here))
    b.attempt.batch (All-head TrueMiss b steps miss)))
    (missed x steps (All-tail (λ c. Contains c.stored x) b steps has) (All-tail TrueMiss b steps miss))

-- the same for many identities, each of which was in the deduplication index before each of these steps
all_missed : {X : Type 0} (f : X → List ℕ) (xs : List X) (steps : List LookedUp) → All (λ b. All (λ x. Contains b.stored (f x)) xs) steps → All TrueMiss steps
    → All (λ x. All (Differ x) (added steps)) (map f xs)
all_missed f xs steps has miss =
    All-map (λ x. All (Differ x) (added steps)) f xs (λ k d h. missed (f (get_or xs k d)) steps (λ n b l. has n b l k d h) miss)

abbrev Written : LookedUp → LookedUp → Type 0
Written a b = StoresAll b.stored a.attempt.batch

added_apart : (steps : List LookedUp) → All (λ b. AreApart (map identity_of b.attempt.batch)) steps → All TrueMiss steps → AllPairs Written steps
    → AreApart (added steps)
added_apart [] once miss written = λ i j d l h. absurd (omega (arith, l, h))
added_apart (b ∷ steps) once miss written =
    let behind = All-tail TrueMiss b steps miss in
    AllPairs-append Differ (map identity_of b.attempt.batch) (added steps) (All-head (λ c. AreApart (map identity_of c.attempt.batch)) b steps once)
    (added_apart steps (All-tail (λ c. AreApart (map identity_of c.attempt.batch)) b steps once) behind (AllPairs-rest Written b steps written))
    (all_missed identity_of b.attempt.batch steps (AllPairs-first Written b steps written) behind)

pub one_entry_an_identity : OneEntryAnIdentity
one_entry_an_identity H held known attempts s made true_misses =
    let all = extends_from H held known (looked_up_attempts attempts) s made in
    let Z = all.0 in
    let steps = taken_looked_up attempts in
    let K = map identity_of_leaf known in
    let I = added steps in
    let new : map identity_of_leaf Z ≡ I = all.1.identities ∙ ap (flat_map step_identities) (taken_attempts attempts) in
    let ids : map identity_of_leaf (known ++ Z) ≡ K ++ I = map-append identity_of_leaf known Z ∙ ap (λ x. K ++ x) new in
    let apart : AreApart I = added_apart steps true_misses.once true_misses.misses true_misses.written in
    let across : All (λ x. All (Differ x) I) K = all_missed identity_of_leaf known steps true_misses.had true_misses.misses in (
      known ++ Z,
      sym (take_at known Z (length known) refl),
      all.1.carried.carry,
      record {
        behind = all.1.carried.behind;
        added = subst (AreNewFrom (length known)) (sym ids)
            (λ i j d l n h. pairs_behind Differ K I apart across i j d l (omega (arith, n, length-map known identity_of_leaf)) h);
        whole = λ k. subst AreApart (sym ids) (AllPairs-append Differ K I k apart across);
      },
    )
