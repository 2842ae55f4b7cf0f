use Rattle.std.proofs.Common.{length}
use Rattle.tree_tests.proofs.forged_proofs.+roots_by_proof.Given as goal

abbrev pub decreases-roots_by_proof : goal.decreases-roots_by_proof
decreases-roots_by_proof l = length l.proof.now
