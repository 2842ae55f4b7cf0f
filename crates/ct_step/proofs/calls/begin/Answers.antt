use Rattle.std.proofs.Common.{[], refl}
use Rattle.ct_step.specs.StepAnswers.{first_line, IsReplyTo}
use Rattle.ct_step.specs.StepAsks.{for_begin}
use Rattle.ct_step.specs.StepWords.{begins}
use Rattle.ct_step.proofs.StepKept.{by_reply}
use Rattle.ct_step.proofs.calls.begin.Goals as goal

pub returns : goal.returns
returns c =
    by_reply c.begun_line.result [] (begins (first_line c.args.timestamp)) (IsReplyTo (for_begin c.args.timestamp)) refl
    (rw c.first_line.ensures at c.begun_line.ensures)
