-- The replies to calls.
use Rattle.std.specs.Prelude.{ℕ, List, [], ◌∷◌, Option, Some, None}
use Rattle.ct_codec.specs.Submitted.{Submitted}
use Rattle.ct_step.specs.declared.claim.Claim.{Claim}
use Rattle.ct_step.specs.StepAnswers.{IsReplyTo}
use Rattle.ct_step.specs.StepAsks.{StepAsk, for_claim, for_no_batch, AsksStep, AsksClaim}
use Rattle.ct_step.specs.StepRepeats.{BatchEntry}
use Rattle.ct_step.specs.StepWords.{StepReply}

-- the submission of a batch that has exactly one
abbrev pub one_submission : List BatchEntry → Option Submitted
one_submission [] = None
one_submission (e ∷ []) = Some e.0
one_submission (e ∷ f ∷ rest) = None

-- the receipt of a submission, if there is one
abbrev pub claim_of_one : Option Submitted → Claim → List (List ℕ) → List ℕ → StepAsk
claim_of_one None claim path state = for_no_batch
claim_of_one (Some s) claim path state = for_claim claim path state s

-- the reply to a step with the bytes of a batch and of an edge, a timestamp, a state's text and a bound
abbrev pub IsReplyToStep : List ℕ → List ℕ → ℕ → List ℕ → ℕ → StepReply → Type 0
IsReplyToStep batch edge now state most reply = (asked : StepAsk) × AsksStep batch edge now state most asked × IsReplyTo asked reply

-- the reply to the bytes of a submission, the index and timestamp that are claimed for it, an audit path and a state's text
abbrev pub IsReplyToClaim : List ℕ → Claim → List (List ℕ) → List ℕ → StepReply → Type 0
IsReplyToClaim submission claim path state reply = (asked : StepAsk) × AsksClaim submission claim path state asked × IsReplyTo asked reply
