-- Uses the laws of the nodes' log, of the nodes and of the guards, which the body calls.
use Rattle.ct_node.proofs.Heads.{guarded_heads_are_of_one_log}
use Rattle.ct_node.proofs.log_laws.heads.Goals as goal

pub returns : goal.returns
returns c = record { one_log = guarded_heads_are_of_one_log c.nodes.ensures.one_log c.worlds.ensures.asked c.heads_go_back.ensures }
