-- The reason of each answer of a start is true, and no other answer's reason is.
use Rattle.std.proofs.Common.{refl, subst, inl, ◌≡◌, sym, ◌∙◌, ap}
use Rattle.std.specs.Prelude.{Bool, true, false, not, ◌&&◌, if◌then◌else◌, Option, Some, None}
use Rattle.ct_node.specs.declared.starting.Point.{Point}
use Rattle.ct_node.specs.declared.starting.Other.{Other}
use Rattle.ct_node.specs.declared.starting.Found.{Found}
use Rattle.ct_node.specs.declared.starting.Beginning.{Beginning}
use Rattle.ct_node.specs.declared.starting.Beginning.TheVariants.{Goes, Creates, Gone, BehindSeen, BehindGuard, TwoRoots, GuardBehind, BehindListed, BehindPublished}
use Rattle.ct_node.specs.Starts.{is_at, is_free_of_other, is_two, guard_reaches, by_published, by_listed, by_guarded, of_guard, by_guard, begun, may_create, started, started_by, IfAny, IsNoOther, PassesSeen, PassesGuard, PassesGuarded, PassesListed, TellsWhy, AnswersTell}
use Rattle.ct_node.proofs.Ahead.{no_false, no_true, and_true, not_false, is_false, gate_open, gate_shut, at_same, same_at, reached_other, free_other, freed_other, Reaches, guard_has, guard_had, if_true, if_false, known_nothing, nothing_known, goes_behind_none, creates_over_nothing}

-- ---- tests
not_true : (t : Bool) → not t ≡ true → t ≡ false
not_true true e = absurd (no_false e)
not_true false e = refl

is_not : (t : Bool) → (t ≡ true → ⊥) → not t ≡ true
is_not true h = absurd (h refl)
is_not false h = refl

none_true : (t : Bool) → (t ≡ true → ⊥) → t ≡ false
none_true true h = absurd (h refl)
none_true false h = refl

gate_true : (g x : Bool) → g ≡ true → not x ≡ true → (g && not x) ≡ true
gate_true true x g n = n
gate_true false x g n = absurd (no_false g)

if_tells : (f : Found) (t : Bool) (x rest : Beginning) → (t ≡ true → TellsWhy f x) → (t ≡ false → TellsWhy f rest) → TellsWhy f (if t then x else rest)
if_tells f true x rest a b = a refl
if_tells f false x rest a b = b refl

abbrev some_of : Other → Option Other → Other
some_of p None = p
some_of p (Some q) = q

-- ---- heads that are ahead of a head
ahead_other : (p : Point) (o : Option Other) → is_free_of_other p o ≡ false → (x : Other) × (o ≡ Some x) × (IsNoOther p x → ⊥)
ahead_other p None e = absurd (no_true e)
ahead_other p (Some x) e = (x, refl, λ n. no_true (sym (reached_other p x n) ∙ e))

ahead_of_guard : (g : Option Other) (o : Option Other) → guard_reaches g o ≡ false → (q : Other) × (o ≡ Some q) × (Reaches g q → ⊥)
ahead_of_guard g None e = absurd (no_true e)
ahead_of_guard g (Some q) e = (q, refl, λ r. no_true (sym (guard_had g (Some q) (λ z i. subst (Reaches g) (ap (some_of q) i) r)) ∙ e))

not_free_other : (p : Point) (o : Option Other) (x : Other) → o ≡ Some x → (IsNoOther p x → ⊥) → not (is_free_of_other p o) ≡ true
not_free_other p o x is other = is_not (is_free_of_other p o) (λ t. other (subst (IfAny (IsNoOther p)) is (free_other p o t)))

-- ---- the answers if there is a lock
module _ (f : Found) (p : Point) where
  guard_tells : PassesSeen f p → f.guarded ≡ true → (o : Other) → f.guard ≡ Some o → (IsNoOther p o → ⊥)
      → TellsWhy f (of_guard f p)
  guard_tells seen guarded o is other =
      let same : is_two p f.guard ≡ is_at p o.at = ap (is_two p) is in
      if_tells f (is_two p f.guard) TwoRoots BehindGuard
      (λ t.
      let at : o.at ≡ p = at_same p o.at (sym same ∙ t) in
      (p, seen, guarded, (o, is, at, none_true o.same (λ s. other (inl at, λ e. s)))))
      (λ t. (p, seen, guarded, (o, is, other, λ e. no_true (sym (same_at p o.at e) ∙ (sym same ∙ t)))))

  begun_tells : f.register ≡ Some p → TellsWhy f (begun f p)
  begun_tells e =
      if_tells f (not (is_free_of_other p f.seen)) BehindSeen (by_guard f p)
      (λ t. (p, e, ahead_other p f.seen (not_true (is_free_of_other p f.seen) t)))
      (λ t.
      let seen : PassesSeen f p = (e, free_other p f.seen (not_false (is_free_of_other p f.seen) t)) in
      if_tells f (f.guarded && not (is_free_of_other p f.guard)) (of_guard f p) (by_guarded f p)
      (λ u.
      let g = and_true f.guarded (not (is_free_of_other p f.guard)) u in
      let x = ahead_other p f.guard (not_true (is_free_of_other p f.guard) g.1) in
      guard_tells seen g.0 x.0 x.1 x.2)
      (λ u.
      let guard : PassesGuard f p = (seen, λ g. free_other p f.guard (gate_open f.guarded (is_free_of_other p f.guard) u g)) in
      if_tells f (f.guarded && not (guard_reaches f.guard f.listed)) GuardBehind (by_listed f p)
      (λ v.
      let g = and_true f.guarded (not (guard_reaches f.guard f.listed)) v in
      (p, guard, g.0, ahead_of_guard f.guard f.listed (not_true (guard_reaches f.guard f.listed) g.1)))
      (λ v.
      let guarded : PassesGuarded f p =
      (guard, λ g q is. guard_has f.guard f.listed q (gate_open f.guarded (guard_reaches f.guard f.listed) v g) is) in
      if_tells f (not (is_free_of_other p f.listed)) BehindListed (by_published f p)
      (λ y. (p, guarded, ahead_other p f.listed (not_true (is_free_of_other p f.listed) y)))
      (λ y.
      let listed : PassesListed f p = (guarded, free_other p f.listed (not_false (is_free_of_other p f.listed) y)) in
      if_tells f (not (is_free_of_other p f.published)) BehindPublished Goes
      (λ z. (p, listed, ahead_other p f.published (not_true (is_free_of_other p f.published) z)))
      (λ z. (
        p,
        e,
        record {
          seen = seen.1;
          published = free_other p f.published (not_false (is_free_of_other p f.published) z);
          listed = listed.1;
          guard = guard.1;
          guards = guarded.1;
        },
      ))))))

  -- the first check that remains after the ones that passed
  first_of : f.register ≡ Some p → started f ≡ begun f p
  first_of e = ap (started_by f) e

  second_of : PassesSeen f p → started f ≡ by_guard f p
  second_of s =
      first_of s.0
      ∙ if_false (not (is_free_of_other p f.seen)) BehindSeen (by_guard f p) (is_false (is_free_of_other p f.seen) (freed_other p f.seen s.1))

  third_of : PassesGuard f p → started f ≡ by_guarded f p
  third_of s =
      second_of s.0
      ∙ if_false (f.guarded && not (is_free_of_other p f.guard)) (of_guard f p) (by_guarded f p)
      (gate_shut f.guarded (is_free_of_other p f.guard) (λ g. freed_other p f.guard (s.1 g)))

  fourth_of : PassesGuarded f p → started f ≡ by_listed f p
  fourth_of s =
      third_of s.0
      ∙ if_false (f.guarded && not (guard_reaches f.guard f.listed)) GuardBehind (by_listed f p)
      (gate_shut f.guarded (guard_reaches f.guard f.listed) (λ g. guard_had f.guard f.listed (s.1 g)))

  last_of : PassesListed f p → started f ≡ by_published f p
  last_of s =
      fourth_of s.0 ∙ if_false (not (is_free_of_other p f.listed)) BehindListed (by_published f p) (is_false (is_free_of_other p f.listed) (freed_other p f.listed s.1))

  guard_stops : PassesSeen f p → f.guarded ≡ true → (o : Other) → f.guard ≡ Some o → (IsNoOther p o → ⊥)
      → started f ≡ (of_guard f p)
  guard_stops s g o is other =
      second_of s
      ∙ if_true (f.guarded && not (is_free_of_other p f.guard)) (of_guard f p) (by_guarded f p)
      (gate_true f.guarded (is_free_of_other p f.guard) g (not_free_other p f.guard o is other))

  another_root : (o : Other) → o.at ≡ p → o.same ≡ false → IsNoOther p o → ⊥
  another_root o at same n = no_true (sym (n.1 at) ∙ same)

started_tells : (f : Found) (o : Option Point) → f.register ≡ o → TellsWhy f (started_by f o)
started_tells f (Some p) e = begun_tells f p e
started_tells f None e =
    if_tells f (may_create f) Creates Gone
    (λ t. known_nothing f e t)
    (λ t. (e, λ n. no_true (sym (nothing_known f n) ∙ t)))

told_started : (f : Found) (b : Beginning) → TellsWhy f b → b ≡ started f
told_started f Goes t = sym ((goes_behind_none f t.0 t.1).1 t.2)
told_started f Creates t = sym ((creates_over_nothing f).1 t)
told_started f Gone t =
    sym (ap (started_by f) t.0 ∙ if_false (may_create f) Creates Gone (none_true (may_create f) (λ c. t.1 (known_nothing f t.0 c))))
told_started f BehindSeen t =
    sym (first_of f t.0 t.1
    ∙ if_true (not (is_free_of_other t.0 f.seen)) BehindSeen (by_guard f t.0) (not_free_other t.0 f.seen t.2.0 t.2.1 t.2.2))
told_started f BehindGuard t =
    let p = t.0 in
    let o = t.3.0 in
    sym (guard_stops f p t.1 t.2 o t.3.1 t.3.2
    ∙ if_false (is_two p f.guard) TwoRoots BehindGuard
    (none_true (is_two p f.guard) (λ e. t.3.3 (at_same p o.at (sym (ap (is_two p) t.3.1) ∙ e)))))
told_started f TwoRoots t =
    let p = t.0 in
    let o = t.3.0 in
    sym (guard_stops f p t.1 t.2 o t.3.1 (another_root f p o t.3.2 t.3.3)
    ∙ if_true (is_two p f.guard) TwoRoots BehindGuard (ap (is_two p) t.3.1 ∙ same_at p o.at t.3.2))
told_started f GuardBehind t =
    let p = t.0 in
    let q = t.3.0 in
    sym (third_of f p t.1
    ∙ if_true (f.guarded && not (guard_reaches f.guard f.listed)) GuardBehind (by_listed f p)
    (gate_true f.guarded (guard_reaches f.guard f.listed) t.2
    (is_not (guard_reaches f.guard f.listed) (λ r. t.3.2 (guard_has f.guard f.listed q r t.3.1)))))
told_started f BehindListed t =
    let p = t.0 in
    sym (fourth_of f p t.1 ∙ if_true (not (is_free_of_other p f.listed)) BehindListed (by_published f p) (not_free_other p f.listed t.2.0 t.2.1 t.2.2))
told_started f BehindPublished t =
    let p = t.0 in
    sym (last_of f p t.1 ∙ if_true (not (is_free_of_other p f.published)) BehindPublished Goes (not_free_other p f.published t.2.0 t.2.1 t.2.2))

pub answers_tell : AnswersTell
answers_tell f = (started_tells f f.register refl, told_started f)
