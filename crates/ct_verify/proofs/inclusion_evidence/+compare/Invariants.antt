use Rattle.std.proofs.Common.{length}
use Rattle.ct_verify.proofs.inclusion_evidence.+compare.Given as goal

abbrev pub decreases-compare : goal.decreases-compare
decreases-compare g l = length l.leaves.now
