-- Uses the laws of the nodes' log, of deletions, and of tiles' names, which the body calls.
use Rattle.ct_node.proofs.Kept.{nodes_keep_tiles}
use Rattle.ct_node.proofs.log_laws.kept.Goals as goal

pub returns : goal.returns
returns c = nodes_keep_tiles c.nodes.ensures.one_log c.sweeps.ensures c.worlds.ensures.whole c.names.ensures.differ
