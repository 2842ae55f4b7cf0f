use Rattle.ct_subtrees.proofs.parts.+path_length.Given as goal

abbrev pub decreases-path_length : goal.decreases-path_length
decreases-path_length l = l.size
