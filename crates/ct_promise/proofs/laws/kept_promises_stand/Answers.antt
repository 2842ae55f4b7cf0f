use Rattle.ct_promise.proofs.Promised.{kept_promises_stand}
use Rattle.ct_promise.proofs.laws.kept_promises_stand.Goals as goal

pub returns : goal.returns
returns c = kept_promises_stand
