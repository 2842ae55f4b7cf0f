use Rattle.std.proofs.Common.{◌++◌, ◌+◌, ◌<◌, ◌^◌, ℕ, List, length, map, take}
use Rattle.ct_tree.specs.Stack.{Stands}
use Rattle.ct_tree.specs.Tree.{hash_leaf}
use Rattle.ct_monitor.proofs.peaks.Peaks.push_leaves.Given as goal

-- the leaves so far are pushed
abbrev pub invariant-loop-leaf : goal.invariant-loop-leaf
invariant-loop-leaf g l =
    (D : List (List ℕ)) → length D + length l.leaves < 2 ^ 64 → Stands g.H.NodeHash.digest l.fn.self D
    → Stands g.H.NodeHash.digest l.self (D ++ map (hash_leaf g.H.NodeHash.digest) (map (λ v. v.items) (take l.leaf-index l.leaves)))
