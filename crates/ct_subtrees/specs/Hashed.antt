-- The strings that are hashed when a subtree's consistency proof is checked. H is any function from byte lists to byte lists, k the largest
-- power of two smaller than n, c the last element of a proof, and q the elements before it.
use Rattle.std.specs.Prelude.{ℕ, ◌-◌, Bool, false, nat_lt, if◌then◌else◌, List, [], ◌∷◌, ◌++◌, reverse}
use Rattle.ct_tree.specs.Tree.{split}
use Rattle.ct_verify.specs.Hashed.{with_strings}
use Rattle.ct_subtrees.specs.Subtrees.{is_whole}
use Rattle.ct_subtrees.specs.Roots.{subtree_down}

-- the strings that `subtree_down` hashes: 01 || left || right of each node of the tree, and of the subtree
unfoldable pub subtree_strings_down : (List ℕ → List ℕ) → ℕ → ℕ → ℕ → Bool → List ℕ → List (List ℕ) → List (List ℕ)
subtree_strings_down H s e n b r [] = []
subtree_strings_down H s e n b r (c ∷ q) =
    let k = split n in
    if is_whole s e n then []
    else (if nat_lt k e
    then (if nat_lt s k
    then with_strings (subtree_down H 0 (e - k) (n - k) false r q) (λ x y. (1 ∷ c ++ x) ∷ (1 ∷ c ++ y) ∷ [])
    (subtree_strings_down H 0 (e - k) (n - k) false r q)
    else with_strings (subtree_down H (s - k) (e - k) (n - k) b r q) (λ x y. (1 ∷ c ++ y) ∷ []) (subtree_strings_down H (s - k) (e - k) (n - k) b r q))
    else with_strings (subtree_down H s e k b r q) (λ x y. (1 ∷ y ++ c) ∷ []) (subtree_strings_down H s e k b r q))

-- the strings that are hashed when the consistency proof p of the subtree [s, e) with the hash r in a tree of n leaves is checked
unfoldable pub subtree_strings : (List ℕ → List ℕ) → ℕ → ℕ → ℕ → Bool → List ℕ → List (List ℕ) → List (List ℕ)
subtree_strings H s e n b r p = subtree_strings_down H s e n b r (reverse p)
