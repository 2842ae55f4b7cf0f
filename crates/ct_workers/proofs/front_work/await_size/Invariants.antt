use Rattle.std.proofs.Common.{◌-◌}
use Rattle.ct_workers.specs.FrontWork.{Looks}
use Rattle.ct_workers.proofs.front_work.await_size.Given as goal

abbrev pub invariant-loop-turn : goal.invariant-loop-turn
invariant-loop-turn g l = Looks l.fn.front l.front

abbrev pub decreases-loop-turn : goal.decreases-loop-turn
decreases-loop-turn g l = l.turns - l.turn
