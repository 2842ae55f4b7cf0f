use Rattle.ct_promise.proofs.Elements as lemmas
use Rattle.ct_promise.proofs.der_laws.elements_are_read.Goals as goal

pub returns : goal.returns
returns c = lemmas.elements_are_read
