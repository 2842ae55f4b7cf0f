use Rattle.ct_step.proofs.Attempts.{replied_steps_are_attempts}
use Rattle.ct_step.proofs.call_laws.replied_steps_are_attempts.Goals as goal

pub returns : goal.returns
returns c = replied_steps_are_attempts
