-- The codes and the bytes that the calls of a tiled log's step return and write.
use Rattle.std.specs.Prelude.{◌≡◌, ◌⊎◌, ◌&&◌, ◌==◌, ℕ, Bool, true, not, nat_eq, List, [], length, Result, Ok, Err}
use Rattle.std.specs.List.{list_any}
use Rattle.std.specs.Str.{IsUtf8}
use Rattle.ct_step.specs.declared.claim.Claim.{Claim}
use Rattle.ct_step.specs.StepAnswers.{IsReplyTo}
use Rattle.ct_step.specs.StepAsks.{for_begin, for_needs, for_resume}
use Rattle.ct_step.specs.StepCalls.{IsReplyToStep, IsReplyToClaim}
use Rattle.ct_step.specs.StepReplies.{answer_parts, reply_parts}
use Rattle.ct_step.specs.StepWords.{StepReply}
use Rattle.ct_step.specs.declared.answer.Answer.{Answer}
use Rattle.ct_step.specs.declared.answer.StepRefusal.{StepRefusal}
use Rattle.ct_step.specs.declared.answer.StepRefusal.TheVariants.{BadBatch, BadState, TooMany, TooFar, Edge, Entries, ClockBack, Full, TooLong, Bundle, Claim as NoClaim}
use Rattle.libwagtenib.specs.Output.{WritesOutput}

-- the number that a refusal has in C; include/wagtenib.h has the same
abbrev pub step_code : StepRefusal → ℕ
step_code TooFar = 35
step_code BadState = 36
step_code Edge = 48
step_code Entries = 49
step_code ClockBack = 50
step_code Full = 51
step_code TooLong = 52
step_code Bundle = 53
step_code NoClaim = 54
step_code BadBatch = 55
step_code TooMany = 56

-- The number of a refusal is returned, and nothing is written; or the bytes of a reply are written, or have no room.
abbrev pub IsToldIn : Result (List ℕ) StepRefusal → ℕ → List ℕ → List ℕ → ℕ → ℕ → Type 0
IsToldIn (Err refusal) code before after count_before count = (code ≡ step_code refusal) × (after ≡ before) × (count ≡ count_before)
IsToldIn (Ok text) code before after count_before count = WritesOutput text code before after count

-- An answer is returned; or 8, if an allocation was refused, and then nothing has changed.
abbrev pub IsAnswerTold : {F : Type 0} → Result Answer F → ℕ → List ℕ → List ℕ → ℕ → ℕ → Type 0
IsAnswerTold (Ok answer) code before after count_before count = IsToldIn (answer_parts answer) code before after count_before count
IsAnswerTold (Err _) code before after count_before count = (code ≡ 8) × (after ≡ before) × (count ≡ count_before)

-- A reply for which this holds is returned, for a log with this origin. 8: an allocation was refused, and nothing has changed.
abbrev pub AnswersIn : List ℕ → (StepReply → Type 0) → ℕ → List ℕ → List ℕ → ℕ → ℕ → Type 0
AnswersIn origin P code before after count_before count =
    ((reply : StepReply) × P reply × IsToldIn (reply_parts origin reply) code before after count_before count)
    ⊎ ((code ≡ 8) × (after ≡ before) × (count ≡ count_before))

-- whether the bytes are not empty, and have no line end
abbrev pub is_one_line : List ℕ → Bool
is_one_line bytes = not (length bytes == 0) && not (list_any (λ y. nat_eq y 10) bytes)

-- the bytes are an origin: UTF-8, not empty, and without a line end
abbrev pub IsOrigin : List ℕ → Type 0
IsOrigin bytes = IsUtf8 bytes × (is_one_line bytes ≡ true)

-- the same of a log whose origin is given. 10: the bytes are no origin, and nothing has changed.
abbrev pub AnswersOrigin : List ℕ → (StepReply → Type 0) → ℕ → List ℕ → List ℕ → ℕ → ℕ → Type 0
AnswersOrigin origin P code before after count_before count =
    (IsOrigin origin × AnswersIn origin P code before after count_before count)
    ⊎ ((code ≡ 10) × (IsOrigin origin → ⊥) × (after ≡ before) × (count ≡ count_before))

-- the state of a log without leaves at a timestamp
abbrev pub BeginsLog : ℕ → ℕ → List ℕ → List ℕ → ℕ → ℕ → Type 0
BeginsLog timestamp code before after count_before count = AnswersIn [] (IsReplyTo (for_begin timestamp)) code before after count_before count

-- the names of the objects that a step from a state needs
abbrev pub NamesEdge : List ℕ → ℕ → List ℕ → List ℕ → ℕ → ℕ → Type 0
NamesEdge state code before after count_before count = AnswersIn [] (IsReplyTo (for_needs state)) code before after count_before count

-- a step
abbrev pub MakesStep : List ℕ → List ℕ → List ℕ → List ℕ → ℕ → ℕ → ℕ → List ℕ → List ℕ → ℕ → ℕ → Type 0
MakesStep origin state edge batch now ahead code before after count_before count =
    AnswersOrigin origin (IsReplyToStep batch edge now state ahead) code before after count_before count

-- the bytes to sign for a submission that is claimed to be at an index
abbrev pub AnswersClaim : List ℕ → Claim → List (List ℕ) → List ℕ → ℕ → List ℕ → List ℕ → ℕ → ℕ → Type 0
AnswersClaim state claim path submission code before after count_before count =
    AnswersIn [] (IsReplyToClaim submission claim path state) code before after count_before count

-- the objects of the step that made a state
abbrev pub ResumesStep : List ℕ → List ℕ → List ℕ → ℕ → List ℕ → List ℕ → ℕ → ℕ → Type 0
ResumesStep origin state bundle code before after count_before count =
    AnswersOrigin origin (IsReplyTo (for_resume bundle state)) code before after count_before count
