use Rattle.std.proofs.Common.{◌≡◌, ◌+◌, ◌-◌, ◌*◌, ◌/◌, ◌^◌, ◌<◌, ◌≤◌, ◌++◌, ℕ, List, [], length, take, get_or, true}
use Rattle.ct_tree.specs.Tree.{path, proof, subproof}
use Rattle.ct_tree.specs.Lengths.{path_length, subproof_length}
use Rattle.ct_tree.specs.Levels.{raised}
use Rattle.ct_tree.specs.Walk.{IsProofNode, AreNodesGiven}
use Rattle.ct_tree.proofs.walk.proof.Given as goal

abbrev pub invariant-halve : goal.invariant-halve
invariant-halve g l = record {
  same : (D : List (List ℕ)) → l.fn.n ≤ length D → proof g.H.NodeHash.digest l.fn.m (take l.fn.n D)
      ≡ subproof g.H.NodeHash.digest (l.node + 1) (raised g.H.NodeHash.digest l.level (take l.fn.n D)) true;
  count : subproof_length l.fn.m l.fn.n true ≡ subproof_length (l.node + 1) (l.last + 1) true;
  nodes : (D : List (List ℕ)) → l.fn.n ≤ length D → length (raised g.H.NodeHash.digest l.level (take l.fn.n D)) ≡ l.last + 1;
  edge : (D : List (List ℕ)) → AreNodesGiven (IsProofNode l.fn.m l.fn.n) (g.S.NodeSource.gives l.source D) → l.fn.n ≤ length D
      → get_or (raised g.H.NodeHash.digest l.level (take l.fn.n D)) l.last [] ≡ l.edge;
  at : l.last ≡ (l.fn.n - 1) / 2 ^ l.level;
  over : l.node ≡ (l.fn.m - 1) / 2 ^ l.level;
  ends : (l.node + 1) * 2 ^ l.level ≡ l.fn.m;
  inside : (l.last + 1) * 2 ^ l.level < l.fn.n + 2 ^ l.level;
  low : l.level + l.last < 2 ^ 64;
  order : l.node < l.last;
}

abbrev pub decreases-halve : goal.decreases-halve
decreases-halve g l = l.node

abbrev pub invariant-climb : goal.invariant-climb
invariant-climb g l = record {
  same : (D : List (List ℕ)) → AreNodesGiven (IsProofNode l.fn.m l.fn.n) (g.S.NodeSource.gives l.source D) → l.fn.n ≤ length D
      → proof g.H.NodeHash.digest l.fn.m (take l.fn.n D)
      ≡ l.proof.items ++ path g.H.NodeHash.digest l.node (raised g.H.NodeHash.digest l.level (take l.fn.n D));
  count : subproof_length l.fn.m l.fn.n true ≡ length l.proof.items + path_length l.node (l.last + 1);
  nodes : (D : List (List ℕ)) → l.fn.n ≤ length D → length (raised g.H.NodeHash.digest l.level (take l.fn.n D)) ≡ l.last + 1;
  edge : (D : List (List ℕ)) → AreNodesGiven (IsProofNode l.fn.m l.fn.n) (g.S.NodeSource.gives l.source D) → l.fn.n ≤ length D
      → get_or (raised g.H.NodeHash.digest l.level (take l.fn.n D)) l.last [] ≡ l.edge;
  at : l.last ≡ (l.fn.n - 1) / 2 ^ l.level;
  over : l.node ≡ (l.fn.m - 1) / 2 ^ l.level;
  known : l.fn.m / 2 ^ (l.level + 1) ≡ (l.fn.m - 1) / 2 ^ (l.level + 1);
  inside : (l.last + 1) * 2 ^ l.level < l.fn.n + 2 ^ l.level;
  low : l.level + l.last < 2 ^ 64;
  order : l.node ≤ l.last;
}

abbrev pub decreases-climb : goal.decreases-climb
decreases-climb g l = l.last
