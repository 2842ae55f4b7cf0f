-- Many sequencers over one lock, which look each submission up in a deduplication index before they add it. H is any hash function on byte
-- lists.
use Rattle.std.specs.Prelude.{◌≡◌, ℕ, ◌≤◌, List, length, ◌++◌, map, flat_map, filter, All, AllPairs, Contains}
use Rattle.ct_codec.specs.Submitted.{Submitted, identity_of}
use Rattle.ct_step.specs.Growths.{IsState}
use Rattle.ct_step.specs.History.{Attempt, AreAttempts, taken, CarryOn}
use Rattle.ct_step.specs.declared.growth.State.{State}
use Rattle.ct_step.specs.Identities.{identity_of_leaf, AreApart, AreNewFrom}
use Rattle.ct_verify.specs.ConsistencyEvidence.{IsBeginning}

-- An attempt whose submissions were looked up first: the identities that the deduplication index had then (`stored`), and the attempt with
-- those submissions that it was said not to have (`attempt`).
pub record LookedUp : Type 0 where
  pub stored : List (List ℕ)
  pub attempt : Attempt

-- the attempts themselves
abbrev pub looked_up_attempts : List LookedUp → List Attempt
looked_up_attempts attempts = map (λ b. b.attempt) attempts

-- the attempts whose states the lock took, in order
abbrev pub taken_looked_up : List LookedUp → List LookedUp
taken_looked_up attempts = filter (λ b. b.attempt.took) attempts

-- the deduplication index has the identity of each of these submissions
abbrev pub StoresAll : List (List ℕ) → List Submitted → Type 0
StoresAll stored batch = All (λ s. Contains stored (identity_of s)) batch

-- The premises about the steps that were taken, in order, and about the deduplication index, if the log began with the leaves `known`:
-- - No batch has an identity twice (`once`).
-- - Each miss was true: the index did not have an identity of the batch when it was looked up (`misses`).
-- - The index had the identities of the known leaves by then (`had`), and those of each step that was taken before (`written`).
pub record MissesWereTrue (known : List (List ℕ)) (steps : List LookedUp) : Type 0 where
  pub once : All (λ b. AreApart (map identity_of b.attempt.batch)) steps
  pub misses : All (λ b. All (λ s. ¬ (Contains b.stored (identity_of s))) b.attempt.batch) steps
  pub had : All (λ b. All (λ leaf. Contains b.stored (identity_of_leaf leaf)) known) steps
  pub written : AllPairs (λ a b. StoresAll b.stored a.attempt.batch) steps

-- The steps that were taken, in order, add each identity once to a log that began with the leaves `known` and has the leaves D:
-- - Their leaves come after those that were known (`behind`).
-- - The identity of a leaf after the known ones does not occur earlier in D (`added`).
-- - So if the known leaves had each identity once, D has each identity once (`whole`).
pub record AddsOnce (known D : List (List ℕ)) (steps : List Attempt) : Type 0 where
  pub behind : All (λ a. length known ≤ a.growth.first) steps
  pub added : AreNewFrom (length known) (map identity_of_leaf D)
  pub whole : AreApart (map identity_of_leaf known) → AreApart (map identity_of_leaf D)

-- If the misses of the steps that were taken were true, then the one list of leaves that they all carry on has at most one leaf for each
-- identity after those that were known, and none with an identity of a known leaf.
abbrev pub OneEntryAnIdentity : Type 0
OneEntryAnIdentity =
    (H : List ℕ → List ℕ) (held : State) (known : List (List ℕ)) (attempts : List LookedUp) → IsState H held known
    → AreAttempts H held (looked_up_attempts attempts) → MissesWereTrue known (taken_looked_up attempts)
    → (D : List (List ℕ)) × IsBeginning known D × CarryOn H held.timestamp D (taken (looked_up_attempts attempts))
    × AddsOnce known D (taken (looked_up_attempts attempts))

-- These premises do not exclude any history that satisfies the conclusion. If the identities of the steps' batches, in order, are new after
-- those of the leaves `known`, then there are states of the deduplication index for which each miss was true.
abbrev pub MissesCanBeTrue : Type 0
MissesCanBeTrue =
    (known : List (List ℕ)) (steps : List Attempt)
    → AreNewFrom (length known) (map identity_of_leaf known ++ flat_map (λ a. map identity_of a.batch) steps)
    → (attempts : List LookedUp) × (looked_up_attempts attempts ≡ steps) × MissesWereTrue known attempts
