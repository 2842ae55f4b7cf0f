use Rattle.ct_step.proofs.RolledOut.{resumed_lines_are_rolled_out}
use Rattle.ct_step.proofs.call_laws.rolled_out_by_lines.Goals as goal

pub returns : goal.returns
returns c = resumed_lines_are_rolled_out
