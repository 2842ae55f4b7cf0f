use Rattle.ct_promise.proofs.Here as lemmas
use Rattle.ct_promise.proofs.Found as found
use Rattle.ct_promise.proofs.laws.cuts_are_read.Goals as goal

pub returns-clause-read : goal.returns-clause-read
returns-clause-read c = lemmas.cuts_are_read

pub returns-clause-there : goal.returns-clause-there
returns-clause-there c = found.read_cuts_are_there
