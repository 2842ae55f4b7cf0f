use Rattle.libwagtenib.proofs.MonitorLaws.{judging_calls_agree}
use Rattle.libwagtenib.proofs.monitor_laws.calls_agree.Goals as goal

pub returns : goal.returns
returns c = judging_calls_agree
