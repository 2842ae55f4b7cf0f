-- By the law that the body calls.
use Rattle.libwagtenib.proofs.NodeLaws.{calls_put_all}
use Rattle.libwagtenib.proofs.node_laws.nodes_by_calls_put_all.Goals as goal

pub returns : goal.returns
returns c = calls_put_all c.whole.ensures
