use Rattle.libwagtenib.proofs.StepLaws.{calls_resume_steps}
use Rattle.libwagtenib.proofs.step_laws.resumed_by_calls.Goals as goal

pub returns : goal.returns
returns c = calls_resume_steps
