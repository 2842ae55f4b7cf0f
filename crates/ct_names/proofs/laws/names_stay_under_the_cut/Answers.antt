use Rattle.ct_names.proofs.UnderCut as lemmas
use Rattle.ct_names.proofs.laws.names_stay_under_the_cut.Goals as goal

pub returns-clause-stay : goal.returns-clause-stay
returns-clause-stay c = lemmas.names_stay

pub returns-clause-whole : goal.returns-clause-whole
returns-clause-whole c = lemmas.names_of_tbs
