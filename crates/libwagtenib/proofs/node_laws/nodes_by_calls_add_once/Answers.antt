-- By the laws that the body calls.
use Rattle.libwagtenib.proofs.NodeLaws.{calls_add_once}
use Rattle.libwagtenib.proofs.node_laws.nodes_by_calls_add_once.Goals as goal

pub returns : goal.returns
returns c = calls_add_once c.no_identity_twice.ensures
