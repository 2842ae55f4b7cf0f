-- The state of the split after the first entries of a batch, as the code keeps it.
use Rattle.std.specs.Prelude.{◌≡◌, ℕ, List, [], ◌∷◌, length, map, Vec}
use Rattle.std.specs.Global.{Global}
use Rattle.std.specs.List.{zip}
use Rattle.ct_codec.specs.Submitted.{Submitted}
use Rattle.ct_step.specs.Entries.{IsBatchOf}
use Rattle.ct_step.specs.StepRepeats.{BatchEntry, with_identity, first_of_each, places_of_all}
use Rattle.ct_step.specs.declared.repeats.Splitting.{Splitting}

-- the known identities followed by those of the first entries of a batch
abbrev pub known_behind : List (List ℕ) → List BatchEntry → List (List ℕ)
known_behind known [] = known
known_behind known (e ∷ batch) = known_behind (with_identity known e) batch

-- The state after the first entries: the table has their identities (`known`), and the columns are a batch (`batch`), which has the first
-- entry of each identity (`firsts`). Their indexes among these are right (`places`).
pub record SplitSoFar (Y : List BatchEntry) (keys : List (Vec ℕ Global)) (S : List Submitted) (C : List (List (List ℕ))) (P : List ℕ) : Type 0 where
  pub known : map (λ (k : Vec ℕ Global). k.items) keys ≡ known_behind [] Y
  pub batch : IsBatchOf (length S) C
  pub firsts : zip S C ≡ first_of_each [] Y
  pub places : P ≡ places_of_all [] Y

-- the same for the code's fields
abbrev pub IsSplit : List BatchEntry → Splitting → Type 0
IsSplit Y split = SplitSoFar Y split.identities.keys split.submissions.items (map (λ c. c.items) split.chains.items) split.places.items
