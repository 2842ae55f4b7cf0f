use Rattle.tree_tests.proofs.sweeps.+split.Given as goal

abbrev pub decreases-split : goal.decreases-split
decreases-split l = l.n
