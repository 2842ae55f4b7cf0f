use Rattle.ct_monitor.proofs.Accusing.{heads_are_accused_exactly}
use Rattle.ct_monitor.proofs.call_laws.heads_are_accused_exactly.Goals as goal

pub returns : goal.returns
returns c = heads_are_accused_exactly
