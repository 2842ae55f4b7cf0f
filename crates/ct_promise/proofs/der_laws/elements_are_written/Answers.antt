use Rattle.ct_promise.proofs.DerWritten as lemmas
use Rattle.ct_promise.proofs.der_laws.elements_are_written.Goals as goal

pub returns-clause-written : goal.returns-clause-written
returns-clause-written c = lemmas.elements_are_written
