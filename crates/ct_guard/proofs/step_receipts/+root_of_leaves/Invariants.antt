use Rattle.std.proofs.Common.{length}
use Rattle.ct_guard.proofs.step_receipts.+root_of_leaves.Given as goal

abbrev pub decreases-root_of_leaves : goal.decreases-root_of_leaves
decreases-root_of_leaves g l = length l.leaves.now
