use Rattle.std.proofs.Common.{length}
use Rattle.ct_verify.proofs.consistency_evidence.+walk.Given as goal

abbrev pub decreases-walk : goal.decreases-walk
decreases-walk g l = length l.new.now
