-- Uses the law of the nodes' log, which the body calls.
use Rattle.ct_node.proofs.Public.{public_names_have_one_content}
use Rattle.ct_node.proofs.log_laws.public_names.Goals as goal

pub returns : goal.returns
returns c = public_names_have_one_content c.nodes.ensures.one_log
