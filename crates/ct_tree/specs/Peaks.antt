-- A tree as a list of perfect subtrees, largest first.
use Rattle.std.specs.Prelude.{ℕ, zero, suc, ◌*◌, ◌/◌, List, [], ◌∷◌, ◌++◌, length, take, drop}
use Rattle.ct_tree.specs.Tree.{hash_node}
use Rattle.ct_tree.specs.Levels.{level}

-- the roots of the perfect subtrees of D, by recursion that counts down a bound
unfoldable pub peaks_within : (List ℕ → List ℕ) → ℕ → List (List ℕ) → List (List ℕ)
peaks_within H zero D = []
peaks_within H (suc depth) D =
    let even = 2 * (length D / 2) in
    peaks_within H depth (level H (take even D)) ++ drop even D

-- the roots of the perfect subtrees of which the tree of D consists, largest first. If the number of leaves is odd, the last leaf is the
-- smallest subtree, and the subtrees of the other leaves are those of the next level
unfoldable pub peaks : (List ℕ → List ℕ) → List (List ℕ) → List (List ℕ)
peaks H D = peaks_within H (length D) D

-- the root of a tree from the roots of its perfect subtrees
unfoldable pub root_of_peaks : (List ℕ → List ℕ) → List (List ℕ) → List ℕ
root_of_peaks H [] = H []
root_of_peaks H (x ∷ []) = x
root_of_peaks H (x ∷ y ∷ rest) = hash_node H x (root_of_peaks H (y ∷ rest))
