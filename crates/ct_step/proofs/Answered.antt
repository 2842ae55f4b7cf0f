-- Calls that are answered.
use Rattle.std.proofs.Common.{◌≡◌, ◌<◌, ◌≤◌, ℕ, List, length, Option, Some, None, refl}
use Rattle.std.proofs.lemmas.Bool.{lt-ltb, le-ltb}
use Rattle.std.specs.Prelude.{Result, Err, IfOk}
use Rattle.ct_step.specs.StepAnswers.{IsReplyTo}
use Rattle.ct_step.specs.StepAsks.{for_step, for_too_many, for_no_edge, for_no_batch, step_of_batch}
use Rattle.ct_step.specs.StepBytes.{IsBatchText, IsContentsText}
use Rattle.ct_step.specs.StepCalls.{IsReplyToStep}
use Rattle.ct_step.specs.StepRepeats.{BatchEntry}
use Rattle.ct_step.specs.StepReplies.{IsReplyText, answer_parts}
use Rattle.ct_step.specs.StepWords.{refuses}
use Rattle.ct_step.specs.declared.answer.Answer.{Answer}
use Rattle.ct_step.specs.declared.answer.StepRefusal.{StepRefusal}
use Rattle.ct_step.specs.declared.answer.StepRefusal.TheVariants.{BadBatch, TooMany}
use Rattle.ct_step.proofs.StepKept.{by_reply, by_less}

module _ {F : Type 0} (r : Result Answer F) (origin batch edge : List ℕ) (now : ℕ) (state : List ℕ) (most : ℕ) where
  -- the bytes are not a batch
  pub no_batch : (C : Option (List (List ℕ))) → IsBatchText batch None → IsContentsText edge C → IfOk r (λ t. answer_parts t ≡ Err BadBatch)
      → IfOk r (λ t. IsReplyText origin t (IsReplyToStep batch edge now state most))
  no_batch C none read told =
      by_reply r origin (refuses BadBatch) (IsReplyToStep batch edge now state most) (for_no_batch, (None, C, none, read, refl), refl) told

  -- the batch has too many submissions
  pub too_many : (B : List BatchEntry) (C : Option (List (List ℕ))) → IsBatchText batch (Some B) → IsContentsText edge C → 4096 < length B
      → IfOk r (λ t. answer_parts t ≡ Err TooMany) → IfOk r (λ t. IsReplyText origin t (IsReplyToStep batch edge now state most))
  too_many B C is read many told =
      let asked : for_too_many ≡ step_of_batch (Some B) C now state most = rw (lt-ltb 4096 (length B) many) refl in
      by_reply r origin (refuses TooMany) (IsReplyToStep batch edge now state most) (for_too_many, (Some B, C, is, read, asked), refl) told

  -- the bytes are not contents, and this is why there is no step
  pub no_edge : (B : List BatchEntry) (refusal : StepRefusal) → IsBatchText batch (Some B) → IsContentsText edge None → length B ≤ 4096
      → IsReplyTo (for_no_edge now state most) (refuses refusal) → IfOk r (λ t. answer_parts t ≡ Err refusal)
      → IfOk r (λ t. IsReplyText origin t (IsReplyToStep batch edge now state most))
  no_edge B refusal is none few to told =
      let asked : for_no_edge now state most ≡ step_of_batch (Some B) None now state most = rw (le-ltb 4096 (length B) few) refl in
      by_reply r origin (refuses refusal) (IsReplyToStep batch edge now state most)
      (for_no_edge now state most, (Some B, None, is, none, asked), to) told

  -- the reply to a step
  pub is_step : (B : List BatchEntry) (C : List (List ℕ)) → IsBatchText batch (Some B) → IsContentsText edge (Some C) → length B ≤ 4096
      → IfOk r (λ t. IsReplyText origin t (IsReplyTo (for_step B C now state most)))
      → IfOk r (λ t. IsReplyText origin t (IsReplyToStep batch edge now state most))
  is_step B C is read few told =
      let asked : for_step B C now state most ≡ step_of_batch (Some B) (Some C) now state most = rw (le-ltb 4096 (length B) few) refl in
      by_less r origin (IsReplyTo (for_step B C now state most)) (IsReplyToStep batch edge now state most)
      (λ reply to. (for_step B C now state most, (Some B, Some C, is, read, asked), to)) told
