use Rattle.libwagtenib.proofs.WatchLaws.{compared_tiles_are_judged}
use Rattle.libwagtenib.proofs.watch_laws.compared_tiles_are_judged.Goals as goal

pub returns : goal.returns
returns c = compared_tiles_are_judged c.data_tiles_stand_apart.ensures
