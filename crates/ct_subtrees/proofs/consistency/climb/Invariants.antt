use Rattle.std.proofs.Common.{◌≡◌, ◌+◌, ℕ, List, ◌++◌, take}
use Rattle.ct_subtrees.specs.Walk.{PartYields, part_at}
use Rattle.ct_subtrees.proofs.consistency.climb.Given as goal

abbrev pub invariant-loop-element : goal.invariant-loop-element
invariant-loop-element g l = record {
  counted : l.level + l.element-index ≡ l.depth;
  yields : (r : List ℕ) (q : List (List ℕ)) → PartYields g.H.NodeHash.digest (part_at l.depth l.tree) r q (l.fn.lowest, l.fn.lowest)
      → PartYields g.H.NodeHash.digest (part_at l.level l.tree) r (q ++ take l.element-index l.path) (l.hashes.subtree, l.hashes.root);
}
