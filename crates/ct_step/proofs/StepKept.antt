-- An answer that is returned.
use Rattle.std.proofs.Common.{◌≡◌, ℕ, List}
use Rattle.std.specs.Prelude.{Result, Ok, Err, IfOk}
use Rattle.ct_step.specs.StepWords.{StepReply}
use Rattle.ct_step.specs.StepReplies.{IsReplyText, answer_parts, reply_parts}
use Rattle.ct_step.specs.declared.answer.Answer.{Answer}

-- if this is a reply, and it is returned, then a reply is returned
pub by_reply : {F : Type 0} (r : Result Answer F) (origin : List ℕ) (reply : StepReply) (P : StepReply → Type 0) → P reply
    → IfOk r (λ t. answer_parts t ≡ reply_parts origin reply) → IfOk r (λ t. IsReplyText origin t P)
by_reply (Ok t) origin reply P p e = (reply, p, e)
by_reply (Err f) origin reply P p e = tt

-- an answer with a property also has each weaker one
pub by_less : {F : Type 0} (r : Result Answer F) (origin : List ℕ) (P Q : StepReply → Type 0) → ((reply : StepReply) → P reply → Q reply)
    → IfOk r (λ t. IsReplyText origin t P) → IfOk r (λ t. IsReplyText origin t Q)
by_less (Ok t) origin P Q less e = (e.0, less e.0 e.1, e.2)
by_less (Err f) origin P Q less e = tt
