use Rattle.libwagtenib.proofs.StepLaws.{calls_answer_claims}
use Rattle.libwagtenib.proofs.step_laws.claims_by_calls.Goals as goal

pub returns : goal.returns
returns c = calls_answer_claims
