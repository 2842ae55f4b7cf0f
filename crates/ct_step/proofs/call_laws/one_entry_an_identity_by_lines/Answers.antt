use Rattle.ct_step.proofs.AddedOnce.{one_entry_an_identity_by_lines}
use Rattle.ct_step.proofs.call_laws.one_entry_an_identity_by_lines.Goals as goal

pub returns : goal.returns
returns c = one_entry_an_identity_by_lines
