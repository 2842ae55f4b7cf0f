use Rattle.ct_promise.proofs.Written as lemmas
use Rattle.ct_promise.proofs.laws.cuts_are_written.Goals as goal

pub returns-clause-there : goal.returns-clause-there
returns-clause-there c = lemmas.written_cuts_are_there

pub returns-clause-written : goal.returns-clause-written
returns-clause-written c = lemmas.cuts_are_written
