use Rattle.libwagtenib.proofs.WatchLaws.{reports_name_the_waiting_head}
use Rattle.libwagtenib.proofs.watch_laws.reports_name_the_waiting_head.Goals as goal

pub returns : goal.returns
returns c = reports_name_the_waiting_head
