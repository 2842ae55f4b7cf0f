use Rattle.ct_checkpoint.proofs.Messages.{checkpoints_differ}
use Rattle.ct_checkpoint.proofs.laws.messages.Goals as goal

pub returns-clause-checkpoints : goal.returns-clause-checkpoints
returns-clause-checkpoints c = checkpoints_differ
