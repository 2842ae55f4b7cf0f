use Rattle.std.proofs.Common.{◌≡◌, length}
use Rattle.house_tests.proofs.readers.publish_hundred.Given as goal

abbrev pub invariant-loop-now : goal.invariant-loop-now
invariant-loop-now g l = length l.house.lanes ≡ 2
