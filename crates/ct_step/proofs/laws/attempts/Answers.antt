use Rattle.ct_step.proofs.Made.{handed_attempts_are_attempts}
use Rattle.ct_step.proofs.laws.attempts.Goals as goal

pub returns : goal.returns
returns c = handed_attempts_are_attempts
