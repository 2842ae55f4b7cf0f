-- An answer that is reported is a reply.
use Rattle.std.proofs.Common.{◌≡◌, ◌⊎◌, ℕ, List, inl, inr, subst}
use Rattle.std.specs.Prelude.{Result, Ok, Err, IfOk}
use Rattle.ct_step.specs.StepReplies.{IsReplyText}
use Rattle.ct_step.specs.StepWords.{StepReply}
use Rattle.ct_step.specs.declared.answer.Answer.{Answer}
use Rattle.ct_step.specs.declared.answer.StepRefusal.{StepRefusal}
use Rattle.libwagtenib.specs.Step.{AnswersIn, IsAnswerTold, IsToldIn}

pub told : {F : Type 0} (r : Result Answer F) (origin : List ℕ) (P : StepReply → Type 0) (code : ℕ) (before after : List ℕ) (count_before count : ℕ)
    → IfOk r (λ t. IsReplyText origin t P) → IsAnswerTold r code before after count_before count → AnswersIn origin P code before after count_before count
told (Ok t) origin P code before after count_before count is tells =
    inl (is.0, is.1, subst (λ (x : Result (List ℕ) StepRefusal). IsToldIn x code before after count_before count) is.2 tells)
told (Err f) origin P code before after count_before count is tells = inr tells
