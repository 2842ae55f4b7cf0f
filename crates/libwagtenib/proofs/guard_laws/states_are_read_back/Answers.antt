use Rattle.libwagtenib.proofs.GuardLaws.{states_differ, states_are_read_back}
use Rattle.libwagtenib.proofs.guard_laws.states_are_read_back.Goals as goal

pub returns-clause-differ : goal.returns-clause-differ
returns-clause-differ c = states_differ

pub returns-clause-read : goal.returns-clause-read
returns-clause-read c = states_are_read_back
