use Rattle.std.proofs.Common.{length}
use Rattle.ct_subtrees.proofs.explained.+search.Given as goal

abbrev pub decreases-search : goal.decreases-search
decreases-search g l = length l.leaf_hashes.now
