use Rattle.std.proofs.Common.{◌+◌, length}
use Rattle.ct_guard.proofs.step_receipts.+root_after.Given as goal

abbrev pub decreases-root_after : goal.decreases-root_after
decreases-root_after g l = l.before + length l.leaves.now
