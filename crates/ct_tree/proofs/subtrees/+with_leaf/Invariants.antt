use Rattle.ct_tree.proofs.subtrees.+with_leaf.Given as goal

abbrev pub decreases-with_leaf : goal.decreases-with_leaf
decreases-with_leaf g l = l.size
