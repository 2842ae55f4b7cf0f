use Rattle.std.proofs.Common.{[], inl, inr, refl}
use Rattle.ct_codec.specs.Submitted.{entry_of}
use Rattle.ct_step.specs.Leaves.{receipt_parts}
use Rattle.ct_step.specs.Steps.{line_head}
use Rattle.ct_step.specs.StepAnswers.{IsClaimReply}
use Rattle.ct_step.specs.StepWords.{refuses, stands}
use Rattle.ct_step.specs.declared.answer.StepRefusal.TheVariants.{Claim}
use Rattle.ct_step.proofs.Claims.{not_believed}
use Rattle.ct_step.proofs.StepKept.{by_reply}
use Rattle.ct_step.proofs.stepping.claimed.Goals as goal

pub returns-in-Ok : goal.returns-in-Ok
returns-in-Ok c =
    by_reply c.claimed_line.result [] (stands (receipt_parts c.in-Ok.receipt))
    (IsClaimReply c.args.line.now c.args.claim c.args.path.now c.args.submission.now)
    (inl (c.in-Ok.receipt, refl, c.in-Ok.ensures.answered)) c.claimed_line.ensures

pub returns-in_ok-from-in-Err : goal.returns-in_ok-from-in-Err
returns-in_ok-from-in-Err c =
    let other = rw c.in_ok-from-in-Err.was at c.from.ensures in
    by_reply c.refused_line.result [] (refuses Claim)
    (IsClaimReply c.args.line.now c.args.claim c.args.path.now c.args.submission.now)
    (inr (
      refl,
      not_believed (line_head c.args.line.now) (entry_of c.args.submission.now) c.args.claim c.args.path.now c.in-Err.fault other
          c.in-Err.ensures.answered,
    ))
    c.refused_line.ensures
