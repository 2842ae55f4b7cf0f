use Rattle.std.proofs.Common.{length}
use Rattle.tree_tests.proofs.sweeps.+plain_path.Given as goal

abbrev pub decreases-plain_path : goal.decreases-plain_path
decreases-plain_path l = length l.leaves.now
