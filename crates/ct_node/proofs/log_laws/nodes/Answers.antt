-- Uses the laws of the sequencers and of the nodes, which the body calls.
use Rattle.ct_node.proofs.OneLog.{nodes_write_one_log}
use Rattle.ct_node.proofs.log_laws.nodes.Goals as goal

pub returns : goal.returns
returns c = record {
  one_log =
      nodes_write_one_log c.sequencers_over_lines.ensures c.worlds.ensures.sound c.worlds.ensures.chain c.names.ensures.tiles
      c.names.ensures.one_content c.bundles.ensures.resumed;
}
