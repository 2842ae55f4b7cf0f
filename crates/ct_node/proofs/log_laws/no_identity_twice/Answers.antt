-- Uses the laws of the nodes and of the leaves, which the body calls.
use Rattle.ct_node.proofs.Once.{nodes_add_once}
use Rattle.ct_node.proofs.log_laws.no_identity_twice.Goals as goal

pub returns : goal.returns
returns c = nodes_add_once c.worlds.ensures.chain c.worlds.ensures.holds c.worlds.ensures.others c.leaves.ensures
