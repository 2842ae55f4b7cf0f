use Rattle.std.proofs.Common.{◌≡◌, ℕ, ◌+◌, ◌*◌, ◌^◌, ◌<◌, [], length, get_or}
use Rattle.ct_tree.specs.Levels.{subtree}
use Rattle.ct_tree.specs.Stored.{Stores}
use Rattle.ct_tree.proofs.levels.complete.Given as goal

abbrev pub invariant-loop-index : goal.invariant-loop-index
invariant-loop-index g l = record {
  stores : Stores g.H.NodeHash.digest l.above.items l.leaves;
  end : (l.index + 1) * 2 ^ l.level ≡ length l.leaves;
  node : l.node ≡ subtree g.H.NodeHash.digest l.level l.index l.leaves;
  whole : (j : ℕ) → j < l.level → length l.leaves < (length (get_or l.above.items j []) + 1) * 2 ^ (j + 1);
}

abbrev pub decreases-loop-index : goal.decreases-loop-index
decreases-loop-index g l = l.index
