use Rattle.std.proofs.Common.{length}
use Rattle.ct_promise.specs.Reading.{others_at}
use Rattle.ct_promise.proofs.Loops.{Going}
use Rattle.ct_promise.proofs.cutting.after_others.Given as goal

-- the result for the rest
abbrev pub invariant-others : goal.invariant-others
invariant-others l = Going (others_at l.identifier) l.rest l.extensions

abbrev pub decreases-others : goal.decreases-others
decreases-others l = length l.rest
