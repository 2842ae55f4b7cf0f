use Rattle.ct_workers.proofs.OperatorLemmas.{Underway}
use Rattle.ct_workers.proofs.operator_work.sequence.Given as goal

abbrev pub invariant-loop-left : goal.invariant-loop-left
invariant-loop-left g l = Underway l.front l.count l.now l.left l.fn.sequencer l.sequencer

abbrev pub decreases-loop-left : goal.decreases-loop-left
decreases-loop-left g l = l.left
