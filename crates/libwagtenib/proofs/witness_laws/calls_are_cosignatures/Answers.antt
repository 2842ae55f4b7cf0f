use Rattle.libwagtenib.proofs.WitnessLaws.{no_time_is_0}
use Rattle.libwagtenib.proofs.witness_laws.calls_are_cosignatures.Goals as goal

pub returns-clause-timed : goal.returns-clause-timed
returns-clause-timed c = no_time_is_0
