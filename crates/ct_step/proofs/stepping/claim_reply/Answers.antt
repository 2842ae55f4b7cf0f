use Rattle.std.proofs.Common.{[], inr, refl}
use Rattle.ct_step.specs.StepAnswers.{IsReplyTo}
use Rattle.ct_step.specs.StepAsks.{for_claim}
use Rattle.ct_step.specs.StepWords.{refuses}
use Rattle.ct_step.specs.declared.answer.StepRefusal.TheVariants.{BadState}
use Rattle.ct_step.proofs.StepKept.{by_reply}
use Rattle.ct_step.proofs.stepping.claim_reply.Goals as goal

pub returns-in-None : goal.returns-in-None
returns-in-None c =
    by_reply c.refused_line.result [] (refuses BadState)
    (IsReplyTo (for_claim c.args.claim c.args.path.now c.args.state.now c.args.submission.now))
    (inr (c.in-None.ensures, refl)) c.refused_line.ensures
