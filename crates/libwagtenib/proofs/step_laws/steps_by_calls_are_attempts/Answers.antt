use Rattle.libwagtenib.proofs.StepLaws.{calls_make_steps}
use Rattle.libwagtenib.proofs.step_laws.steps_by_calls_are_attempts.Goals as goal

pub returns : goal.returns
returns c = calls_make_steps c.replied_steps_are_attempts.ensures
