use Rattle.std.proofs.Common.{◌≡◌, [], Option, Some, None, map, refl, subst}
use Rattle.std.specs.Prelude.{IfOk}
use Rattle.ct_codec.specs.Submitted.{Submitted}
use Rattle.ct_step.specs.StepAnswers.{IsReplyTo}
use Rattle.ct_step.specs.StepCalls.{claim_of_one, one_submission}
use Rattle.ct_step.specs.StepBytes.{entry_parts}
use Rattle.ct_step.specs.StepReplies.{IsReplyText}
use Rattle.ct_step.specs.StepWords.{refuses}
use Rattle.ct_step.specs.declared.answer.StepRefusal.TheVariants.{BadBatch}
use Rattle.ct_step.proofs.StepKept.{by_reply}
use Rattle.ct_step.proofs.calls.claim_of.Goals as goal

pub returns-in-Some : goal.returns-in-Some
returns-in-Some c =
    let one : Some c.in-Some.submission.now ≡ one_submission (map entry_parts c.args.batch.now) = rw c.in-Some.is at c.one_of.ensures in
    subst (λ (o : Option Submitted). IfOk c.claim_reply.result (λ t. IsReplyText [] t (IsReplyTo (claim_of_one o c.args.claim c.args.path.now c.args.state.now))))
    one c.claim_reply.ensures

pub returns-in-None : goal.returns-in-None
returns-in-None c =
    let none : None ≡ one_submission (map entry_parts c.args.batch.now) = rw c.in-None.is at c.one_of.ensures in
    by_reply c.refused_line.result [] (refuses BadBatch)
    (IsReplyTo (claim_of_one (one_submission (map entry_parts c.args.batch.now)) c.args.claim c.args.path.now c.args.state.now))
    (subst (λ (o : Option Submitted). IsReplyTo (claim_of_one o c.args.claim c.args.path.now c.args.state.now) (refuses BadBatch)) none refl) c.refused_line.ensures
