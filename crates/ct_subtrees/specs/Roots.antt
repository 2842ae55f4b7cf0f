-- Rebuilding the hash of a subtree and the root of a tree from a subtree's consistency proof, from the root of the tree down. H is any
-- function from byte lists to byte lists, and k is the largest power of two smaller than n. The last element of a proof p is nearest the
-- root, so `subtree_down` reads the proof in reverse: c is its last element, and q is the elements before it. None means that the length of
-- the proof is not that of SUBTREE_SUBPROOF(s, e, D[n], b).
use Rattle.std.specs.Prelude.{ℕ, ◌-◌, Bool, false, nat_lt, if◌then◌else◌, List, [], ◌∷◌, reverse, Option, Some, None}
use Rattle.std.specs.Option.{option_map}
use Rattle.ct_tree.specs.Tree.{split, hash_node}
use Rattle.ct_verify.specs.Rebuild.{same_pair}
use Rattle.ct_subtrees.specs.Subtrees.{is_whole}

-- the two hashes that the proof q yields, read from its last element to its first: x of the subtree [s, e), and y of all n leaves. An
-- element beside both joins both. An element beside the part with the subtree joins only y
unfoldable pub subtree_down : (List ℕ → List ℕ) → ℕ → ℕ → ℕ → Bool → List ℕ → List (List ℕ) → Option (List ℕ × List ℕ)
subtree_down H s e n b r [] = if is_whole s e n then (if b then Some (r, r) else None) else None
subtree_down H s e n b r (c ∷ q) =
    let k = split n in
    if is_whole s e n then (if b then None else same_pair c q)
    else (if nat_lt k e
    then (if nat_lt s k
    then option_map (λ (x, y). (hash_node H c x, hash_node H c y)) (subtree_down H 0 (e - k) (n - k) false r q)
    else option_map (λ (x, y). (x, hash_node H c y)) (subtree_down H (s - k) (e - k) (n - k) b r q))
    else option_map (λ (x, y). (x, hash_node H y c)) (subtree_down H s e k b r q))

-- the hash of the subtree [s, e) and the root of n leaves that the consistency proof p yields, for a subtree with e <= n, from the root
-- down. If b is true, r is the hash of the subtree (own form of the recursion of draft-ietf-plants-merkle-tree-certs, section 4.4)
unfoldable pub subtree_roots : (List ℕ → List ℕ) → ℕ → ℕ → ℕ → Bool → List ℕ → List (List ℕ) → Option (List ℕ × List ℕ)
subtree_roots H s e n b r p = subtree_down H s e n b r (reverse p)
