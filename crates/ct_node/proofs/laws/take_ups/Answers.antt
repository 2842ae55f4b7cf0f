-- Each clause is a lemma.
use Rattle.ct_node.proofs.TakenUp.{starts_take_up_newest, starts_go_on}
use Rattle.ct_node.proofs.laws.take_ups.Goals as goal

pub returns : goal.returns
returns c = record { newest = starts_take_up_newest; on = starts_go_on }
