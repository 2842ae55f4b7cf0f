use Rattle.std.proofs.Common.{◌-◌, []}
use Rattle.ct_workers.specs.OperatorWork.{Settling}
use Rattle.ct_workers.proofs.operator_work.settle_some.Given as goal

abbrev pub invariant-loop-turn : goal.invariant-loop-turn
invariant-loop-turn g l = Settling l.front l.now l.fn.sequencer l.sequencer []

abbrev pub decreases-loop-turn : goal.decreases-loop-turn
decreases-loop-turn g l = l.turns - l.turn
