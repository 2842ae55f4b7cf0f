use Rattle.ct_subtrees.proofs.Equations.{subtree_is_multiple, subtree_of_both_parts, subtree_of_right_part, first_leaves_are_subtree, leaf_is_subtree}
use Rattle.ct_subtrees.proofs.laws.range.Goals as goal

pub returns-clause-multiple : goal.returns-clause-multiple
returns-clause-multiple c = subtree_is_multiple

pub returns-clause-both : goal.returns-clause-both
returns-clause-both c = subtree_of_both_parts

pub returns-clause-right : goal.returns-clause-right
returns-clause-right c = subtree_of_right_part

pub returns-clause-first : goal.returns-clause-first
returns-clause-first c = first_leaves_are_subtree

pub returns-clause-leaf : goal.returns-clause-leaf
returns-clause-leaf c = leaf_is_subtree
