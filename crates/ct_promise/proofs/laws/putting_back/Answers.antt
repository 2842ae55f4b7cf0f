use Rattle.ct_promise.proofs.Written as lemmas
use Rattle.ct_promise.proofs.laws.putting_back.Goals as goal

pub returns : goal.returns
returns c = lemmas.putting_back
