use Rattle.std.proofs.Common.{length}
use Rattle.ct_verify.proofs.consistency_evidence.+diverge.Given as goal

abbrev pub decreases-diverge : goal.decreases-diverge
decreases-diverge g l = length l.old.now
