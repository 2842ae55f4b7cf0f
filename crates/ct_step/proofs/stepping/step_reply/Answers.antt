use Rattle.std.proofs.Common.{inr, refl, map}
use Rattle.ct_step.specs.StepAnswers.{IsReplyTo}
use Rattle.ct_step.specs.StepAsks.{for_step}
use Rattle.ct_step.specs.StepBytes.{entry_parts}
use Rattle.ct_step.specs.StepWords.{refuses}
use Rattle.ct_step.specs.declared.answer.StepRefusal.TheVariants.{BadState}
use Rattle.ct_step.proofs.StepKept.{by_reply}
use Rattle.ct_step.proofs.stepping.step_reply.Goals as goal

pub returns-in-None : goal.returns-in-None
returns-in-None c =
    by_reply c.refused_line.result c.args.origin.now (refuses BadState) (IsReplyTo (for_step (map entry_parts c.args.batch.items) (map (λ b. b.items) c.args.contents.now) c.args.now c.args.state.now c.args.most))
    (inr (c.in-None.ensures, refl)) c.refused_line.ensures
