use Rattle.std.proofs.Common.{length}
use Rattle.tree_tests.proofs.sweeps.+plain_subproof.Given as goal

abbrev pub decreases-plain_subproof : goal.decreases-plain_subproof
decreases-plain_subproof l = length l.leaves.now
