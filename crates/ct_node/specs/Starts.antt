-- Decides whether a node that starts may continue from the lock's state, and which head it shows.
use Rattle.std.specs.Prelude.{◌≡◌, ◌⊎◌, ⊤, ◌<◌, ◌≤◌, Bool, true, false, not, ◌&&◌, ◌||◌, ◌==◌, nat_lt, nat_le, if◌then◌else◌, Option, Some, None, List, [], ◌∷◌, AllPairs}
use Rattle.ct_node.specs.declared.starting.Point.{Point}
use Rattle.ct_node.specs.declared.starting.Other.{Other}
use Rattle.ct_node.specs.declared.starting.Found.{Found}
use Rattle.ct_node.specs.declared.starting.Beginning.{Beginning}
use Rattle.ct_node.specs.declared.starting.Beginning.TheVariants.{Goes, Creates, Gone, BehindSeen, BehindGuard, TwoRoots, GuardBehind, BehindListed, BehindPublished}

-- a head has the size and the timestamp of another
abbrev pub is_at : Point → Point → Bool
is_at p q = p.size == q.size && p.moment == q.moment

-- a head may come after another: it has no fewer entries, and is later
abbrev pub comes_behind : Point → Point → Bool
comes_behind p q = nat_le q.size p.size && nat_lt q.moment p.moment

-- a head is the other one, or may come after it: it reaches the other one
abbrev pub reaches : Point → Point → Bool
reaches p q = is_at p q || comes_behind p q

-- the same for a head of which it is known whether its root is that of the lock's
abbrev pub reaches_other : Point → Other → Bool
reaches_other p o = (is_at p o.at && o.same) || comes_behind p o.at

-- there is no other head, or it is reached
abbrev pub is_free_of_other : Point → Option Other → Bool
is_free_of_other p None = true
is_free_of_other p (Some o) = reaches_other p o

-- there is another head of this size and timestamp
abbrev pub is_two : Point → Option Other → Bool
is_two p None = false
is_two p (Some o) = is_at p o.at

-- there is no listed head, or the guard's last one reaches it
abbrev pub guard_reaches : Option Other → Option Other → Bool
guard_reaches g None = true
guard_reaches (Some g) (Some q) = reaches g.at q.at
guard_reaches None (Some q) = false

-- the answer if at most a published head may still be ahead of p
abbrev pub by_published : Found → Point → Beginning
by_published f p = if not (is_free_of_other p f.published) then BehindPublished else Goes

-- the answer if a listed head may be ahead of p, too
abbrev pub by_listed : Found → Point → Beginning
by_listed f p = if not (is_free_of_other p f.listed) then BehindListed else by_published f p

-- the answer if a listed head may be ahead of the guard's, too
abbrev pub by_guarded : Found → Point → Beginning
by_guarded f p = if f.guarded && not (guard_reaches f.guard f.listed) then GuardBehind else by_listed f p

-- the answer if the guard's last head is ahead of p
abbrev pub of_guard : Found → Point → Beginning
of_guard f p = if is_two p f.guard then TwoRoots else BehindGuard

-- the answer if the guard's last head may be ahead of p, too
abbrev pub by_guard : Found → Point → Beginning
by_guard f p = if f.guarded && not (is_free_of_other p f.guard) then of_guard f p else by_guarded f p

-- the answer if the lock has the head p: the first of these reasons that is true
abbrev pub begun : Found → Point → Beginning
begun f p = if not (is_free_of_other p f.seen) then BehindSeen else by_guard f p

-- the option is empty
abbrev pub is_nothing : {A : Type 0} → Option A → Bool
is_nothing None = true
is_nothing (Some x) = false

-- a lock may be created, and nothing is known of a log
abbrev pub may_create : Found → Bool
may_create f =
    f.creates && (is_nothing f.seen && (is_nothing f.published && (is_nothing f.listed && (is_nothing f.guard && not f.stands))))

-- the answer if there is no lock
abbrev pub created : Found → Beginning
created f = if may_create f then Creates else Gone

-- the answer if the lock has a head, or if there is no lock
abbrev pub started_by : Found → Option Point → Beginning
started_by f (Some p) = begun f p
started_by f None = created f

-- the answer of a node that starts
abbrev pub started : Found → Beginning
started f = started_by f f.register

-- the head that is shown after another one: the later one
abbrev pub shown_next : Option Point → Point → Point
shown_next None q = q
shown_next (Some p) q = if comes_behind q p then q else p

-- ---- theorems about it

-- the head q is p, or it has no more entries than p and is earlier
abbrev pub IsNoFurther : Point → Point → Type 0
IsNoFurther q p = (q ≡ p) ⊎ ((q.size ≤ p.size) × (q.moment < p.moment))

-- the option is empty, or its value has the property
abbrev pub IfAny : {A : Type 0} → (A → Type 0) → Option A → Type 0
IfAny P None = ⊤
IfAny P (Some x) = P x

-- a head other than the lock's is no further than p, and if it has the size and timestamp of p, it has the same root
abbrev pub IsNoOther : Point → Other → Type 0
IsNoOther p o = IsNoFurther o.at p × (o.at ≡ p → o.same ≡ true)

-- No head is ahead of the lock's:
-- - none that this machine saw (`seen`)
-- - none that is published (`published`)
-- - none that the store lists (`listed`)
-- - none that the guard let through, if there is a guard (`guard`)
--
-- If there is a guard, then no listed head is ahead of the guard's (`guards`).
pub record NoneIsAhead (f : Found) (p : Point) : Type 0 where
  pub seen : IfAny (IsNoOther p) f.seen
  pub published : IfAny (IsNoOther p) f.published
  pub listed : IfAny (IsNoOther p) f.listed
  pub guard : f.guarded ≡ true → IfAny (IsNoOther p) f.guard
  pub guards : f.guarded ≡ true → (q : Other) → f.listed ≡ Some q → (g : Other) × (f.guard ≡ Some g) × IsNoFurther q.at g.at

-- a node continues from the lock's head if and only if none is ahead of it
abbrev pub GoesBehindNone : Type 0
GoesBehindNone = (f : Found) (p : Point) → f.register ≡ Some p → (started f ≡ Goes → NoneIsAhead f p) × (NoneIsAhead f p → started f ≡ Goes)

-- there is no lock, one may be created, and nothing is known of a log
pub record NothingIsKnown (f : Found) : Type 0 where
  pub register : f.register ≡ None
  pub seen : f.seen ≡ None
  pub published : f.published ≡ None
  pub listed : f.listed ≡ None
  pub guard : f.guard ≡ None
  pub stands : f.stands ≡ false
  pub creates : f.creates ≡ true

-- a node creates a lock if and only if there is no lock, one may be created, and nothing is known of a log
abbrev pub CreatesOverNothing : Type 0
CreatesOverNothing = (f : Found) → (started f ≡ Creates → NothingIsKnown f) × (NothingIsKnown f → started f ≡ Creates)

-- the lock has this head, and none that this machine saw is ahead of it
abbrev pub PassesSeen : Found → Point → Type 0
PassesSeen f p = (f.register ≡ Some p) × IfAny (IsNoOther p) f.seen

-- the same, and if there is a guard, no head that it let through is ahead
abbrev pub PassesGuard : Found → Point → Type 0
PassesGuard f p = PassesSeen f p × (f.guarded ≡ true → IfAny (IsNoOther p) f.guard)

-- the guard's last head is at least as far as this one
abbrev pub IsOfGuard : Found → Other → Type 0
IsOfGuard f q = (g : Other) × (f.guard ≡ Some g) × IsNoFurther q.at g.at

-- the same, and if there is a guard, no listed head is ahead of the guard's
abbrev pub PassesGuarded : Found → Point → Type 0
PassesGuarded f p = PassesGuard f p × (f.guarded ≡ true → (q : Other) → f.listed ≡ Some q → IsOfGuard f q)

-- the same, and no listed head is ahead
abbrev pub PassesListed : Found → Point → Type 0
PassesListed f p = PassesGuarded f p × IfAny (IsNoOther p) f.listed

-- The reason that each answer reports. It includes that the checks before it passed.
abbrev pub TellsWhy : Found → Beginning → Type 0
TellsWhy f Goes = (p : Point) × (f.register ≡ Some p) × NoneIsAhead f p
TellsWhy f Creates = NothingIsKnown f
TellsWhy f Gone = (f.register ≡ None) × (NothingIsKnown f → ⊥)
TellsWhy f BehindSeen = (p : Point) × (f.register ≡ Some p) × ((o : Other) × (f.seen ≡ Some o) × (IsNoOther p o → ⊥))
TellsWhy f BehindGuard = (p : Point) × PassesSeen f p × (f.guarded ≡ true) × ((o : Other) × (f.guard ≡ Some o) × (IsNoOther p o → ⊥) × (o.at ≡ p → ⊥))
TellsWhy f TwoRoots = (p : Point) × PassesSeen f p × (f.guarded ≡ true) × ((o : Other) × (f.guard ≡ Some o) × (o.at ≡ p) × (o.same ≡ false))
TellsWhy f GuardBehind = (p : Point) × PassesGuard f p × (f.guarded ≡ true) × ((q : Other) × (f.listed ≡ Some q) × (IsOfGuard f q → ⊥))
TellsWhy f BehindListed = (p : Point) × PassesGuarded f p × ((o : Other) × (f.listed ≡ Some o) × (IsNoOther p o → ⊥))
TellsWhy f BehindPublished = (p : Point) × PassesListed f p × ((o : Other) × (f.published ≡ Some o) × (IsNoOther p o → ⊥))

-- the reason of the answer is true, and no two answers have a true reason for one start
abbrev pub AnswersTell : Type 0
AnswersTell = (f : Found) → TellsWhy f (started f) × ((b : Beginning) → TellsWhy f b → b ≡ started f)

-- the heads that are shown if these heads are found one after the other
abbrev pub shown_over : Option Point → List Point → List Point
shown_over shown [] = []
shown_over shown (q ∷ qs) = shown_next shown q ∷ shown_over (Some (shown_next shown q)) qs

-- whatever is found, no shown head is ahead of one that is shown later
abbrev pub ShownNeverGoesBack : Type 0
ShownNeverGoesBack = (qs : List Point) → AllPairs IsNoFurther (shown_over None qs)
