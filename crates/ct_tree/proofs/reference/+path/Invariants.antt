use Rattle.std.proofs.Common.{length}
use Rattle.ct_tree.proofs.reference.+path.Given as goal

abbrev pub decreases-path : goal.decreases-path
decreases-path g l = length l.leaves.now
