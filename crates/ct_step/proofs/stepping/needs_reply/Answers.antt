use Rattle.std.proofs.Common.{[], inr, refl}
use Rattle.ct_step.specs.StepAnswers.{IsReplyTo}
use Rattle.ct_step.specs.StepAsks.{for_needs}
use Rattle.ct_step.specs.StepWords.{refuses}
use Rattle.ct_step.specs.declared.answer.StepRefusal.TheVariants.{BadState}
use Rattle.ct_step.proofs.StepKept.{by_reply}
use Rattle.ct_step.proofs.stepping.needs_reply.Goals as goal

pub returns-in-None : goal.returns-in-None
returns-in-None c =
    by_reply c.refused_line.result [] (refuses BadState) (IsReplyTo (for_needs c.args.state.now))
    (inr (c.in-None.ensures, refl)) c.refused_line.ensures
