use Rattle.std.proofs.Common.{◌≡◌, length}
use Rattle.house_tests.proofs.sixteen_fronts.take_round.Given as goal

abbrev pub invariant-loop-front : goal.invariant-loop-front
invariant-loop-front g l = (l.house.house ≡ l.fn.house.house) × (length l.house.lanes ≡ length l.fn.house.lanes)
