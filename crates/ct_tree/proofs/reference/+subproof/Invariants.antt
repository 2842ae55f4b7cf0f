use Rattle.std.proofs.Common.{length}
use Rattle.ct_tree.proofs.reference.+subproof.Given as goal

abbrev pub decreases-subproof : goal.decreases-subproof
decreases-subproof g l = length l.leaves.now
