use Rattle.ct_promise.proofs.Written as lemmas
use Rattle.ct_promise.proofs.laws.bytes_have_one_cut.Goals as goal

pub returns : goal.returns
returns c = lemmas.one_cut
