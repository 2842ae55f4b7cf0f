use Rattle.ct_promise.proofs.Here as lemmas
use Rattle.ct_promise.proofs.laws.certificates_have_one_key.Goals as goal

pub returns-clause-tbs : goal.returns-clause-tbs
returns-clause-tbs c = lemmas.one_tbs

pub returns-clause-key : goal.returns-clause-key
returns-clause-key c = lemmas.one_key
