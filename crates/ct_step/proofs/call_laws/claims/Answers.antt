use Rattle.ct_step.proofs.Claims.{claims_stand_there}
use Rattle.ct_step.proofs.call_laws.claims.Goals as goal

pub returns : goal.returns
returns c = claims_stand_there
