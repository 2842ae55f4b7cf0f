use Rattle.ct_names.proofs.Again as lemmas
use Rattle.ct_names.proofs.laws.bare_beginnings_are_refused.Goals as goal

pub returns : goal.returns
returns c = lemmas.bare_beginnings_are_refused
