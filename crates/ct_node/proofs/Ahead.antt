-- A node continues if and only if no head is ahead of the lock's. The head that is shown never goes back.
use Rattle.std.proofs.Common.{refl, subst, ◌⊎◌, inl, inr, ⊎_elim, ◌≡◌, ℕ, ◌<◌, ◌≤◌, sym, ◌∙◌, ap, arith, eqb-true, eq-eqb, ltb-true, lt-ltb, leb-true, le-leb, List, [], ◌∷◌, All, AllPairs}
use Rattle.std.specs.Prelude.{⊤, Bool, true, false, not, ◌&&◌, ◌||◌, ◌==◌, nat_lt, nat_le, if◌then◌else◌, Option, Some, None}
use Rattle.std.proofs.lemmas.List.Elements.{All-nil, All-cons, All-weaker}
use Rattle.std.proofs.lemmas.List.Kept.{AllPairs-cons}
use Rattle.ct_node.specs.declared.starting.Point.{Point}
use Rattle.ct_node.specs.declared.starting.Other.{Other}
use Rattle.ct_node.specs.declared.starting.Found.{Found}
use Rattle.ct_node.specs.declared.starting.Beginning.{Beginning}
use Rattle.ct_node.specs.declared.starting.Beginning.TheVariants.{Goes, Creates, Gone, BehindSeen, BehindGuard, TwoRoots, GuardBehind, BehindListed, BehindPublished}
use Rattle.ct_node.specs.Starts.{is_at, comes_behind, reaches, reaches_other, is_free_of_other, is_two, guard_reaches, by_published, by_listed, by_guarded, of_guard, by_guard, begun, is_nothing, may_create, created, started, started_by, shown_next, shown_over, IsNoFurther, IfAny, IsNoOther, NoneIsAhead, GoesBehindNone, NothingIsKnown, CreatesOverNothing, ShownNeverGoesBack}

-- ---- tests
abbrev IsNoTrue : Bool → Type 0
IsNoTrue true = ⊥
IsNoTrue false = ⊤

pub no_false : false ≡ true → ⊥
no_false q = subst IsNoTrue q tt

pub no_true : true ≡ false → ⊥
no_true q = no_false (sym q)

pub and_true : (a b : Bool) → (a && b) ≡ true → (a ≡ true) × (b ≡ true)
and_true true b q = (refl, q)
and_true false b q = absurd (no_false q)

or_true : (a b : Bool) → (a || b) ≡ true → (a ≡ true) ⊎ (b ≡ true)
or_true true b q = inl refl
or_true false b q = inr q

both : (a b : Bool) → a ≡ true → b ≡ true → (a && b) ≡ true
both true b p q = q
both false b p q = absurd (no_false p)

left : (a b : Bool) → a ≡ true → (a || b) ≡ true
left true b p = refl
left false b p = absurd (no_false p)

right : (a b : Bool) → b ≡ true → (a || b) ≡ true
right true b p = refl
right false b p = p

pub not_false : (t : Bool) → not t ≡ false → t ≡ true
not_false true q = refl
not_false false q = absurd (no_true q)

pub is_false : (t : Bool) → t ≡ true → not t ≡ false
is_false true q = refl
is_false false q = absurd (no_false q)

pub gate_open : (g x : Bool) → (g && not x) ≡ false → g ≡ true → x ≡ true
gate_open true x q e = not_false x q
gate_open false x q e = absurd (no_false e)

pub gate_shut : (g x : Bool) → (g ≡ true → x ≡ true) → (g && not x) ≡ false
gate_shut true x f = is_false x (f refl)
gate_shut false x f = refl

-- ---- heads
same_point : (p q : Point) → p.size ≡ q.size → p.moment ≡ q.moment → q ≡ p
same_point p q s m = ap (λ (n : ℕ). record { size = n; moment = q.moment }) (sym s) ∙ ap (λ (n : ℕ). record { size = p.size; moment = n }) (sym m)

pub at_same : (p q : Point) → is_at p q ≡ true → q ≡ p
at_same p q e =
    let b = and_true (p.size == q.size) (p.moment == q.moment) e in same_point p q (eqb-true p.size q.size b.0) (eqb-true p.moment q.moment b.1)

behind_further : (p q : Point) → comes_behind p q ≡ true → (q.size ≤ p.size) × (q.moment < p.moment)
behind_further p q e =
    let b = and_true (nat_le q.size p.size) (nat_lt q.moment p.moment) e in (leb-true q.size p.size b.0, ltb-true q.moment p.moment b.1)

no_further : (p q : Point) → reaches p q ≡ true → IsNoFurther q p
no_further p q e =
    ⊎_elim (λ (a : is_at p q ≡ true). inl (at_same p q a)) (λ (b : comes_behind p q ≡ true). inr (behind_further p q b))
    (or_true (is_at p q) (comes_behind p q) e)

pub same_at : (p q : Point) → q ≡ p → is_at p q ≡ true
same_at p q e =
    subst (λ (z : Point). is_at p z ≡ true) (sym e)
    (both (p.size == p.size) (p.moment == p.moment) (eq-eqb p.size p.size refl) (eq-eqb p.moment p.moment refl))

further_behind : (p q : Point) → (q.size ≤ p.size) × (q.moment < p.moment) → comes_behind p q ≡ true
further_behind p q h = both (nat_le q.size p.size) (nat_lt q.moment p.moment) (le-leb q.size p.size h.0) (lt-ltb q.moment p.moment h.1)

pub reached : (p q : Point) → IsNoFurther q p → reaches p q ≡ true
reached p q (inl e) = left (is_at p q) (comes_behind p q) (same_at p q e)
reached p q (inr h) = right (is_at p q) (comes_behind p q) (further_behind p q h)

pub no_other : (p : Point) (o : Other) → reaches_other p o ≡ true → IsNoOther p o
no_other p o e =
    ⊎_elim
    (λ (a : (is_at p o.at && o.same) ≡ true). let b = and_true (is_at p o.at) o.same a in (inl (at_same p o.at b.0), λ f. b.1))
    (λ (b : comes_behind p o.at ≡ true).
    let h = behind_further p o.at b in
    (inr h, λ f. let m : o.at.moment ≡ p.moment = ap (λ (z : Point). z.moment) f in absurd (omega (arith, m, h.1))))
    (or_true (is_at p o.at && o.same) (comes_behind p o.at) e)

pub reached_other : (p : Point) (o : Other) → IsNoOther p o → reaches_other p o ≡ true
reached_other p o (inl e, f) = left (is_at p o.at && o.same) (comes_behind p o.at) (both (is_at p o.at) o.same (same_at p o.at e) (f e))
reached_other p o (inr h, f) = right (is_at p o.at && o.same) (comes_behind p o.at) (further_behind p o.at h)

pub free_other : (p : Point) (o : Option Other) → is_free_of_other p o ≡ true → IfAny (IsNoOther p) o
free_other p None e = tt
free_other p (Some o) e = no_other p o e

pub freed_other : (p : Point) (o : Option Other) → IfAny (IsNoOther p) o → is_free_of_other p o ≡ true
freed_other p None e = refl
freed_other p (Some o) e = reached_other p o e

abbrev pub Reaches : Option Other → Other → Type 0
Reaches g q = (h : Other) × (g ≡ Some h) × IsNoFurther q.at h.at

pub guard_has : (g : Option Other) (o : Option Other) (q : Other) → guard_reaches g o ≡ true → o ≡ Some q → Reaches g q
guard_has g o q e is = has g (subst (λ (z : Option Other). guard_reaches g z ≡ true) is e)
  where
    has : (g : Option Other) → guard_reaches g (Some q) ≡ true → Reaches g q
    has (Some h) e = (h, refl, no_further h.at q.at e)
    has None e = absurd (no_false e)

pub guard_had : (g : Option Other) (o : Option Other) → ((q : Other) → o ≡ Some q → Reaches g q) → guard_reaches g o ≡ true
guard_had g None f = refl
guard_had g (Some q) f =
    let r = f q refl in subst (λ (z : Option Other). guard_reaches z (Some q) ≡ true) (sym r.1) (reached r.0.at q.at r.2)

-- ---- the decision of a node
abbrev IsGoes : Beginning → Type 0
IsGoes Goes = ⊤
IsGoes b = ⊥

is_goes : (b : Beginning) → IsGoes b → b ≡ Goes
is_goes Goes h = refl
is_goes Creates h = absurd h
is_goes Gone h = absurd h
is_goes BehindSeen h = absurd h
is_goes BehindGuard h = absurd h
is_goes TwoRoots h = absurd h
is_goes GuardBehind h = absurd h
is_goes BehindListed h = absurd h
is_goes BehindPublished h = absurd h

goes_if : (t : Bool) (x rest : Beginning) → (IsGoes x → ⊥) → IsGoes (if t then x else rest) → (t ≡ false) × IsGoes rest
goes_if true x rest stops h = absurd (stops h)
goes_if false x rest stops h = (refl, h)

goes_by : (t : Bool) (x rest : Beginning) → t ≡ false → IsGoes rest → IsGoes (if t then x else rest)
goes_by true x rest e h = absurd (no_true e)
goes_by false x rest e h = h

two_stop : (t : Bool) → IsGoes (if t then TwoRoots else BehindGuard) → ⊥
two_stop true h = h
two_stop false h = h

module _ (f : Found) (p : Point) where
  none_ahead : IsGoes (begun f p) → NoneIsAhead f p
  none_ahead h =
      let a = goes_if (not (is_free_of_other p f.seen)) BehindSeen (by_guard f p) (λ z. z) h in
      let b = goes_if (f.guarded && not (is_free_of_other p f.guard)) (of_guard f p) (by_guarded f p)
      (two_stop (is_two p f.guard)) a.1 in
      let c = goes_if (f.guarded && not (guard_reaches f.guard f.listed)) GuardBehind (by_listed f p) (λ z. z) b.1 in
      let d = goes_if (not (is_free_of_other p f.listed)) BehindListed (by_published f p) (λ z. z) c.1 in
      let e = goes_if (not (is_free_of_other p f.published)) BehindPublished Goes (λ z. z) d.1 in
      record {
        seen = free_other p f.seen (not_false (is_free_of_other p f.seen) a.0);
        published = free_other p f.published (not_false (is_free_of_other p f.published) e.0);
        listed = free_other p f.listed (not_false (is_free_of_other p f.listed) d.0);
        guard = λ g. free_other p f.guard (gate_open f.guarded (is_free_of_other p f.guard) b.0 g);
        guards = λ g q is. guard_has f.guard f.listed q (gate_open f.guarded (guard_reaches f.guard f.listed) c.0 g) is;
      }

  goes_behind : NoneIsAhead f p → IsGoes (begun f p)
  goes_behind n =
      goes_by (not (is_free_of_other p f.seen)) BehindSeen (by_guard f p) (is_false (is_free_of_other p f.seen) (freed_other p f.seen n.seen))
      (goes_by (f.guarded && not (is_free_of_other p f.guard)) (of_guard f p) (by_guarded f p)
      (gate_shut f.guarded (is_free_of_other p f.guard) (λ g. freed_other p f.guard (n.guard g)))
      (goes_by (f.guarded && not (guard_reaches f.guard f.listed)) GuardBehind (by_listed f p)
      (gate_shut f.guarded (guard_reaches f.guard f.listed) (λ g. guard_had f.guard f.listed (λ q is. n.guards g q is)))
      (goes_by (not (is_free_of_other p f.listed)) BehindListed (by_published f p) (is_false (is_free_of_other p f.listed) (freed_other p f.listed n.listed))
      (goes_by (not (is_free_of_other p f.published)) BehindPublished Goes (is_false (is_free_of_other p f.published) (freed_other p f.published n.published)) tt))))

started_at : (f : Found) (p : Point) → f.register ≡ Some p → started f ≡ begun f p
started_at f p e = ap (started_by f) e

pub goes_behind_none : GoesBehindNone
goes_behind_none f p e = (
  λ g. none_ahead f p (subst IsGoes (sym g ∙ started_at f p e) tt),
  λ n. started_at f p e ∙ is_goes (begun f p) (goes_behind f p n),
)

-- ---- creation
abbrev IsCreates : Beginning → Type 0
IsCreates Creates = ⊤
IsCreates b = ⊥

nothing : {A : Type 0} (o : Option A) → is_nothing o ≡ true → o ≡ None
nothing None e = refl
nothing (Some x) e = absurd (no_false e)

creates_if : (t : Bool) → IsCreates (if t then Creates else Gone) → t ≡ true
creates_if true h = refl
creates_if false h = absurd h

-- the result of a test that is true
pub if_true : (t : Bool) (x rest : Beginning) → t ≡ true → (if t then x else rest) ≡ x
if_true true x rest e = refl
if_true false x rest e = absurd (no_false e)

pub if_false : (t : Bool) (x rest : Beginning) → t ≡ false → (if t then x else rest) ≡ rest
if_false true x rest e = absurd (no_true e)
if_false false x rest e = refl

creates_no : (t : Bool) (x rest : Beginning) → (IsCreates x → ⊥) → (IsCreates rest → ⊥) → IsCreates (if t then x else rest) → ⊥
creates_no true x rest stops never h = stops h
creates_no false x rest stops never h = never h

begun_creates_no : (f : Found) (p : Point) → IsCreates (begun f p) → ⊥
begun_creates_no f p =
    creates_no (not (is_free_of_other p f.seen)) BehindSeen (by_guard f p) (λ z. z)
    (creates_no (f.guarded && not (is_free_of_other p f.guard)) (of_guard f p) (by_guarded f p)
    (creates_no (is_two p f.guard) TwoRoots BehindGuard (λ z. z) (λ z. z))
    (creates_no (f.guarded && not (guard_reaches f.guard f.listed)) GuardBehind (by_listed f p) (λ z. z)
    (creates_no (not (is_free_of_other p f.listed)) BehindListed (by_published f p) (λ z. z)
    (creates_no (not (is_free_of_other p f.published)) BehindPublished Goes (λ z. z) (λ z. z)))))

where_none : (f : Found) (o : Option Point) → IsCreates (started_by f o) → (o ≡ None) × IsCreates (created f)
where_none f None h = (refl, h)
where_none f (Some p) h = absurd (begun_creates_no f p h)

pub known_nothing : (f : Found) → f.register ≡ None → may_create f ≡ true → NothingIsKnown f
known_nothing f none t =
    let rest : Bool = is_nothing f.guard && not f.stands in
    let all = and_true f.creates (is_nothing f.seen && (is_nothing f.published && (is_nothing f.listed && rest))) t in
    let a = and_true (is_nothing f.seen) (is_nothing f.published && (is_nothing f.listed && rest)) all.1 in
    let b = and_true (is_nothing f.published) (is_nothing f.listed && rest) a.1 in
    let c = and_true (is_nothing f.listed) rest b.1 in
    let d = and_true (is_nothing f.guard) (not f.stands) c.1 in
    record {
      register = none;
      seen = nothing f.seen a.0;
      published = nothing f.published b.0;
      listed = nothing f.listed c.0;
      guard = nothing f.guard d.0;
      stands = no_stands f.stands d.1;
      creates = all.0;
    }
  where
    no_stands : (t : Bool) → not t ≡ true → t ≡ false
    no_stands true q = absurd (no_false q)
    no_stands false q = refl

pub nothing_known : (f : Found) → NothingIsKnown f → may_create f ≡ true
nothing_known f n =
    let rest : Bool = is_nothing f.guard && not f.stands in
    let d = both (is_nothing f.guard) (not f.stands) (ap is_nothing n.guard) (ap not n.stands) in
    let c = both (is_nothing f.listed) rest (ap is_nothing n.listed) d in
    let b = both (is_nothing f.published) (is_nothing f.listed && rest) (ap is_nothing n.published) c in
    let a = both (is_nothing f.seen) (is_nothing f.published && (is_nothing f.listed && rest)) (ap is_nothing n.seen) b in
    both f.creates (is_nothing f.seen && (is_nothing f.published && (is_nothing f.listed && rest))) n.creates a

pub creates_over_nothing : CreatesOverNothing
creates_over_nothing f = (
  λ e.
      let n = where_none f f.register (subst IsCreates (sym e) tt) in
      known_nothing f n.0 (creates_if (may_create f) n.1),
  λ n. ap (started_by f) n.register ∙ if_true (may_create f) Creates Gone (nothing_known f n),
)

-- ---- the heads that are shown
no_further_than : (x y z : Point) → IsNoFurther x y → IsNoFurther y z → IsNoFurther x z
no_further_than x y z (inl e) h = subst (λ (w : Point). IsNoFurther w z) (sym e) h
no_further_than x y z (inr h) (inl e) = subst (λ (w : Point). IsNoFurther x w) e (inr h)
no_further_than x y z (inr h) (inr k) = inr (omega (arith, h.0, k.0), omega (arith, h.1, k.1))

next_no_less : (p q : Point) → IsNoFurther p (shown_next (Some p) q)
next_no_less p q =
    elim (comes_behind q p) as (λ t. comes_behind q p ≡ t → IsNoFurther p (if t then q else p)) [
      | true ↦ λ e. inr (behind_further q p e)
      | false ↦ λ e. inl refl
    ] refl

shown_behind : (p : Point) (qs : List Point) → All (IsNoFurther p) (shown_over (Some p) qs)
shown_behind p [] = All-nil (IsNoFurther p)
shown_behind p (q ∷ qs) =
    let n : Point = shown_next (Some p) q in
    All-cons (IsNoFurther p) n (shown_over (Some n) qs) (next_no_less p q)
    (All-weaker (IsNoFurther n) (IsNoFurther p) (λ x h. no_further_than p n x (next_no_less p q) h) (shown_over (Some n) qs) (shown_behind n qs))

shown_pairs : (s : Option Point) (qs : List Point) → AllPairs IsNoFurther (shown_over s qs)
shown_pairs s [] = λ i j d l h. absurd (omega (arith, l, h))
shown_pairs s (q ∷ qs) =
    let n : Point = shown_next s q in
    AllPairs-cons IsNoFurther n (shown_over (Some n) qs) (shown_behind n qs) (shown_pairs (Some n) qs)

pub shown_never_goes_back : ShownNeverGoesBack
shown_never_goes_back qs = shown_pairs None qs
