-- By the laws that the body calls.
use Rattle.ct_node.proofs.Whole.{heads_have_all_objects}
use Rattle.ct_node.proofs.log_laws.whole.Goals as goal

pub returns : goal.returns
returns c = heads_have_all_objects c.nodes.ensures.one_log c.worlds.ensures.sound c.bundles.ensures.resumed
