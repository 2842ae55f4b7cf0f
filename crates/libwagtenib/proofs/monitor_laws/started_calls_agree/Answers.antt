use Rattle.libwagtenib.proofs.MonitorLaws.{started_calls_agree}
use Rattle.libwagtenib.proofs.monitor_laws.started_calls_agree.Goals as goal

pub returns : goal.returns
returns c = started_calls_agree
