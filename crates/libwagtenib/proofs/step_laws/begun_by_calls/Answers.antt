use Rattle.libwagtenib.proofs.StepLaws.{calls_begin_logs}
use Rattle.libwagtenib.proofs.step_laws.begun_by_calls.Goals as goal

pub returns : goal.returns
returns c = calls_begin_logs
