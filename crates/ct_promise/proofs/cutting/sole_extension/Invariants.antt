use Rattle.std.proofs.Common.{length}
use Rattle.ct_promise.specs.Reading.{sole_at}
use Rattle.ct_promise.proofs.Loops.{Going}
use Rattle.ct_promise.proofs.cutting.sole_extension.Given as goal

-- the result for the rest
abbrev pub invariant-others : goal.invariant-others
invariant-others l = Going (sole_at l.identifier) l.rest l.extensions

abbrev pub decreases-others : goal.decreases-others
decreases-others l = length l.rest
