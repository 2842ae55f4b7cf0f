-- By the laws that the body calls.
use Rattle.libwagtenib.proofs.NodeLaws.{calls_name_one_content}
use Rattle.libwagtenib.proofs.node_laws.nodes_by_calls_name_one_content.Goals as goal

pub returns : goal.returns
returns c = calls_name_one_content c.nodes.ensures.one_log
