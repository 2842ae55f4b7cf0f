use Rattle.std.proofs.Common.{refl, inr, ap, Err}
use Rattle.ct_lines.proofs.task.line_task.Goals as goal

pub returns-in-Err-BadLine-clause-asked : goal.returns-in-Err-BadLine-clause-asked
returns-in-Err-BadLine-clause-asked c = inr (refl, λ a asked. c.in-Err-BadLine.ensures.bad (ap Err c.in-Err-BadLine.field-0-is) a asked)
