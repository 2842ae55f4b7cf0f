use Rattle.std.proofs.Common.{◌≡◌, ◌+◌, length}
use Rattle.std.specs.Prelude.{sum}
use Rattle.libwagtenib.proofs.monitor.are_in_all.Given as goal

-- the rest is the total without the lengths that were read
abbrev pub invariant-loop-length : goal.invariant-loop-length
invariant-loop-length l = sum l.fn.lengths + l.left ≡ l.total + sum l.lengths

abbrev pub decreases-loop-length : goal.decreases-loop-length
decreases-loop-length l = length l.lengths
