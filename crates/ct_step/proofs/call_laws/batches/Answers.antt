use Rattle.ct_step.proofs.Splits.{batches_are_split}
use Rattle.ct_step.proofs.call_laws.batches.Goals as goal

pub returns : goal.returns
returns c = batches_are_split
