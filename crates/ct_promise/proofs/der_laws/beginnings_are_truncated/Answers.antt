use Rattle.ct_promise.proofs.Prefixes as lemmas
use Rattle.ct_promise.proofs.der_laws.beginnings_are_truncated.Goals as goal

pub returns : goal.returns
returns c = lemmas.beginnings_are_truncated
