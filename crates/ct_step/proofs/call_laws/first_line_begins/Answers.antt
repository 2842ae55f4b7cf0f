use Rattle.ct_step.proofs.Attempts.{first_line_begins}
use Rattle.ct_step.proofs.call_laws.first_line_begins.Goals as goal

pub returns : goal.returns
returns c = first_line_begins
