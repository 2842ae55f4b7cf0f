use Rattle.std.proofs.Common.{length}
use Rattle.ct_tree.proofs.reference.+root.Given as goal

abbrev pub decreases-root : goal.decreases-root
decreases-root g l = length l.leaves.now
