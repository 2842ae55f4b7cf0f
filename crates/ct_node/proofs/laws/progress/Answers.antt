-- Each clause is a lemma.
use Rattle.ct_node.proofs.Progress.{near, started_nodes_answer, nodes_answer_again}
use Rattle.ct_node.proofs.laws.progress.Goals as goal

pub returns : goal.returns
returns c = record { near = near; started = started_nodes_answer; again = nodes_answer_again }
