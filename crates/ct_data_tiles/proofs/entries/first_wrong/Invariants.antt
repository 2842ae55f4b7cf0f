use Rattle.ct_data_tiles.proofs.LeafByLeaf.{LeadsTo}
use Rattle.ct_data_tiles.proofs.entries.first_wrong.Given as goal

abbrev pub invariant-loop-i : goal.invariant-loop-i
invariant-loop-i l = LeadsTo l.first l.i l.leaves
