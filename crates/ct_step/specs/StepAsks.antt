-- The requests about a step that a call makes.
use Rattle.std.specs.Prelude.{◌≡◌, ℕ, List, [], ◌∷◌, length, nat_lt, if◌then◌else◌, Option, Some, None}
use Rattle.ct_codec.specs.Submitted.{Submitted}
use Rattle.ct_step.specs.declared.claim.Claim.{Claim}
use Rattle.ct_step.specs.StepBytes.{IsBatchText, IsContentsText}
use Rattle.ct_step.specs.StepRepeats.{BatchEntry}

-- The requests. A state is given as its text.
-- - `for_begin`: the state of a log without leaves at a timestamp
-- - `for_needs`: the names of the objects that a step from a state needs
-- - `for_step`: a step, of submissions with their chains' fingerprints, the contents at the edge, a timestamp, a state and the maximum
--   number of milliseconds by which the timestamp may be after that of the state
-- - `for_too_many`: a step of more submissions than a call may have
-- - `for_no_edge`: a step with an edge that is not a list of contents, by its timestamp, its state and the maximum number of milliseconds
-- - `for_resume`: the objects of a step that was decided, by its staged batch and its state
-- - `for_claim`: the receipt of a submission's entry, by the index and timestamp that are claimed for it, an audit path and a state
-- - `for_no_batch`: a step or a receipt for bytes that are not submissions
pub data StepAsk : Type 0 where
  for_begin : ℕ → StepAsk
  for_needs : List ℕ → StepAsk
  for_step : List BatchEntry → List (List ℕ) → ℕ → List ℕ → ℕ → StepAsk
  for_too_many : StepAsk
  for_no_edge : ℕ → List ℕ → ℕ → StepAsk
  for_resume : List ℕ → List ℕ → StepAsk
  for_claim : Claim → List (List ℕ) → List ℕ → Submitted → StepAsk
  for_no_batch : StepAsk

-- a step with the contents at the edge, if there are any
abbrev pub step_of_edge : List BatchEntry → Option (List (List ℕ)) → ℕ → List ℕ → ℕ → StepAsk
step_of_edge batch None now state most = for_no_edge now state most
step_of_edge batch (Some contents) now state most = for_step batch contents now state most

-- a step of this batch, of at most 4,096 submissions
abbrev pub step_of_batch : Option (List BatchEntry) → Option (List (List ℕ)) → ℕ → List ℕ → ℕ → StepAsk
step_of_batch None contents now state most = for_no_batch
step_of_batch (Some batch) contents now state most = if nat_lt 4096 (length batch) then for_too_many else step_of_edge batch contents now state most

-- the bytes of a batch and of an edge, a timestamp, a state's text and a bound are the request for this step
abbrev pub AsksStep : List ℕ → List ℕ → ℕ → List ℕ → ℕ → StepAsk → Type 0
AsksStep batch edge now state most a =
    (entries : Option (List BatchEntry)) × (contents : Option (List (List ℕ))) × IsBatchText batch entries × IsContentsText edge contents
    × (a ≡ step_of_batch entries contents now state most)

-- the receipt of the only submission that the bytes represent
abbrev pub claim_of_batch : Option (List BatchEntry) → Claim → List (List ℕ) → List ℕ → StepAsk
claim_of_batch (Some (e ∷ [])) claim path state = for_claim claim path state e.0
claim_of_batch _ claim path state = for_no_batch

-- the bytes of a submission, a claim, a path and a state's text are the request for this receipt
abbrev pub AsksClaim : List ℕ → Claim → List (List ℕ) → List ℕ → StepAsk → Type 0
AsksClaim submission claim path state a = (entries : Option (List BatchEntry)) × IsBatchText submission entries × (a ≡ claim_of_batch entries claim path state)
