-- What calls of a step have written if they returned 0: replies of ct_step, by SHA-256.
use Rattle.std.specs.Prelude.{◌≡◌, ℕ, Bool, List, [], ◌∷◌, take, Option, Some, Ok}
use Rattle.ct_step.specs.declared.claim.Claim.{Claim}
use Rattle.ct_step.specs.StateLines.{IsStateLine, state_line_text}
use Rattle.ct_step.specs.declared.line.StateLine.{StateLine}
use Rattle.ct_step.specs.declared.step.Step.{Step}
use Rattle.ct_step.specs.StepAnswers.{IsReplyTo, first_line}
use Rattle.ct_step.specs.StepAsks.{for_step, for_claim, for_resume}
use Rattle.ct_step.specs.StepBytes.{IsBatchText, IsContentsText}
use Rattle.ct_step.specs.StepLaws.{IsStepAttempt}
use Rattle.ct_step.specs.StepRepeats.{BatchEntry}
use Rattle.ct_step.specs.StepReplies.{stepped_text, resumed_text}
use Rattle.ct_step.specs.StepWords.{Reference, steps, rolls_out, stands}
use Rattle.libwagtenib.specs.Step.{BeginsLog, MakesStep, AnswersClaim, ResumesStep}
use Rattle.sha2.specs.Sha256.{sha256}

-- a call began a log: it wrote the line of a log without leaves
abbrev pub CallsBeginLogs : Type 0
CallsBeginLogs =
    (timestamp : ℕ) (before after : List ℕ) (count_before count : ℕ) → BeginsLog timestamp 0 before after count_before count
    → take count after ≡ state_line_text (first_line timestamp)

-- A call made a step:
-- - The bytes of the batch are submissions, those of the edge are contents, and those of the state are a line.
-- - The bytes that were written are those of a step, which is the reply to the request for a step of these from this line.
-- - So it is a step to which the laws of sequencers apply, whether or not the lock took it.
abbrev pub CallsMakeSteps : Type 0
CallsMakeSteps =
    (origin state edge batch : List ℕ) (now ahead : ℕ) (before after : List ℕ) (count_before count : ℕ)
    → MakesStep origin state edge batch now ahead 0 before after count_before count
    → (B : List BatchEntry) × (C : List (List ℕ)) × (line : StateLine) × (s : Step) × (places : List ℕ) × (objects : List Reference)
    × IsBatchText batch (Some B) × IsContentsText edge (Some C) × IsStateLine line × (state_line_text line ≡ state)
    × IsReplyTo (for_step B C now state ahead) (steps s places objects) × ((took : Bool) → IsStepAttempt sha256 line B C now s took)
    × (take count after ≡ stepped_text origin s places objects)

-- A call answered a claim: the bytes are one submission, and those that were written are the receipt in the reply to the request for its claimed index.
abbrev pub CallsAnswerClaims : Type 0
CallsAnswerClaims =
    (state : List ℕ) (claim : Claim) (path : List (List ℕ)) (submission before after : List ℕ) (count_before count : ℕ)
    → AnswersClaim state claim path submission 0 before after count_before count
    → (e : BatchEntry) × (receipt : ℕ × ℕ × List ℕ) × IsBatchText submission (Some (e ∷ [])) × IsReplyTo (for_claim claim path state e.0) (stands receipt)
    × (take count after ≡ receipt.2)

-- A call resumed a step: the bytes that were written are the head and the objects in the reply to the request for the objects of the state's step.
abbrev pub CallsResumeSteps : Type 0
CallsResumeSteps =
    (origin state bundle before after : List ℕ) (count_before count : ℕ) → ResumesStep origin state bundle 0 before after count_before count
    → (line : StateLine) × (objects : List Reference) × IsReplyTo (for_resume bundle state) (rolls_out line objects)
    × (take count after ≡ resumed_text origin line objects)
