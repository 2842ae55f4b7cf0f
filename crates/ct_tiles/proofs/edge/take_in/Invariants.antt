use Rattle.std.proofs.Common.{◌≡◌, ◌++◌, ℕ, List, length, map}
use Rattle.ct_tiles.specs.Tiles.{rows, edge, hashes}
use Rattle.ct_tiles.specs.Edge.{IsEdge}
use Rattle.ct_tiles.proofs.Chunks.{added}
use Rattle.ct_tiles.proofs.edge.take_in.Given as goal

abbrev pub invariant-loop-level : goal.invariant-loop-level
invariant-loop-level g l = record {
  rows : (D : List (List ℕ)) → IsEdge g.H.NodeHash.digest l.edge D → map (λ r. (r.first, r.hashes.items)) l.rows.items ≡ rows g.H.NodeHash.digest 256 l.level D l.leaf_hashes;
  tiles : (D : List (List ℕ)) → IsEdge g.H.NodeHash.digest l.edge D → map (λ t. t.items) l.tiles.items ≡ edge g.H.NodeHash.digest 256 l.level (D ++ l.leaf_hashes);
  fresh : (D : List (List ℕ)) → IsEdge g.H.NodeHash.digest l.edge D → l.fresh.items ≡ added g.H.NodeHash.digest l.level D l.leaf_hashes;
  known : (D : List (List ℕ)) → IsEdge g.H.NodeHash.digest l.edge D → l.known ≡ length (hashes g.H.NodeHash.digest 256 l.level D);
  count : length l.tiles.items ≡ l.level;
}
