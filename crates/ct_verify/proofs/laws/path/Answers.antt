use Rattle.ct_verify.proofs.Explaining.{path_holds}
use Rattle.ct_verify.proofs.laws.path.Goals as goal

pub returns-clause-holds : goal.returns-clause-holds
returns-clause-holds c = path_holds
