use Rattle.std.proofs.Common.{◌≡◌, ◌+◌, ◌-◌, ◌*◌, ◌/◌, ◌^◌, ◌<◌, ◌≤◌, ◌++◌, ℕ, List, [], length, take, get_or}
use Rattle.ct_tree.specs.Tree.{path}
use Rattle.ct_tree.specs.Lengths.{path_length}
use Rattle.ct_tree.specs.Levels.{raised}
use Rattle.ct_tree.specs.Walk.{IsPathNode, AreNodesGiven}
use Rattle.ct_tree.proofs.walk.path.Given as goal

abbrev pub invariant-loop-last : goal.invariant-loop-last
invariant-loop-last g l = record {
  same : (D : List (List ℕ)) → AreNodesGiven (IsPathNode l.fn.m l.fn.n) (g.S.NodeSource.gives l.source D) → l.fn.n ≤ length D
      → path g.H.NodeHash.digest l.fn.m (take l.fn.n D)
      ≡ l.path.items ++ path g.H.NodeHash.digest l.node (raised g.H.NodeHash.digest l.level (take l.fn.n D));
  count : path_length l.fn.m l.fn.n ≡ length l.path.items + path_length l.node (l.last + 1);
  nodes : (D : List (List ℕ)) → l.fn.n ≤ length D → length (raised g.H.NodeHash.digest l.level (take l.fn.n D)) ≡ l.last + 1;
  edge : (D : List (List ℕ)) → AreNodesGiven (IsPathNode l.fn.m l.fn.n) (g.S.NodeSource.gives l.source D) → l.fn.n ≤ length D
      → get_or (raised g.H.NodeHash.digest l.level (take l.fn.n D)) l.last [] ≡ l.edge;
  at : l.last ≡ (l.fn.n - 1) / 2 ^ l.level;
  over : l.node ≡ l.fn.m / 2 ^ l.level;
  inside : (l.last + 1) * 2 ^ l.level < l.fn.n + 2 ^ l.level;
  low : l.level + l.last < 2 ^ 64;
  order : l.node ≤ l.last;
}

abbrev pub decreases-loop-last : goal.decreases-loop-last
decreases-loop-last g l = l.last
