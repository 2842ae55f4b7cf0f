use Rattle.std.proofs.Common.{length}
use Rattle.tree_tests.proofs.forged_proofs.+root_by_path.Given as goal

abbrev pub decreases-root_by_path : goal.decreases-root_by_path
decreases-root_by_path l = length l.path.now
