-- By the laws that the body calls.
use Rattle.libwagtenib.proofs.NodeLaws.{calls_start_behind_none}
use Rattle.libwagtenib.proofs.node_laws.nodes_start_behind_none.Goals as goal

pub returns : goal.returns
returns c = calls_start_behind_none c.starts.ensures.goes
