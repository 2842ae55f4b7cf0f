use Rattle.ct_tiles.proofs.source.+node.Given as goal

abbrev pub decreases-node : goal.decreases-node
decreases-node g l = l.level
