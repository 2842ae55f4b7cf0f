-- By the laws that the body calls.
use Rattle.libwagtenib.proofs.NodeLaws.{calls_write_one_log}
use Rattle.libwagtenib.proofs.node_laws.nodes_by_calls_write_one_log.Goals as goal

pub returns : goal.returns
returns c = calls_write_one_log c.worlds.ensures.sound c.nodes.ensures.one_log
