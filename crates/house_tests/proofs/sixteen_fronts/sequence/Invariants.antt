use Rattle.std.proofs.Common.{◌≡◌, length}
use Rattle.house_tests.proofs.sixteen_fronts.sequence.Given as goal

abbrev pub invariant-loop-round : goal.invariant-loop-round
invariant-loop-round g l = (l.house.house ≡ l.fn.house.house) × (length l.house.lanes ≡ length l.fn.house.lanes)
