use Rattle.std.proofs.Common.{map}
use Rattle.ct_step.specs.StepBytes.{entry_parts}
use Rattle.ct_step.specs.SplitSoFar.{IsSplit}
use Rattle.ct_step.proofs.repeats.split_batch.Given as goal

abbrev pub invariant-loop-entry : goal.invariant-loop-entry
invariant-loop-entry l = IsSplit (map entry_parts l.yielded) l.split
