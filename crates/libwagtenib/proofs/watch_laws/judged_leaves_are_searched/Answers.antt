use Rattle.libwagtenib.proofs.WatchLaws.{judged_leaves_are_searched}
use Rattle.libwagtenib.proofs.watch_laws.judged_leaves_are_searched.Goals as goal

pub returns : goal.returns
returns c = judged_leaves_are_searched c.leaves_stand_apart.ensures c.leaf_texts_have_no_fault.ensures
