use Rattle.ct_subtrees.proofs.Equations.{subtree_path_not_refused}
use Rattle.ct_subtrees.proofs.laws.subtree_path.Goals as goal

pub returns-clause-not_refused : goal.returns-clause-not_refused
returns-clause-not_refused c = subtree_path_not_refused
