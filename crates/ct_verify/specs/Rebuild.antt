-- Rebuilding a root from an audit path, and two roots from a consistency proof, from the root of the tree down to the leaf. H is any
-- function from byte lists to byte lists, and k is the largest power of two smaller than n. The last element of a path p is nearest the
-- root, so `rebuild_down` and `both_down` read the path in reverse: s is its last element, and q is the elements before it. None means that
-- the length of the path is not that of PATH(m, D[n]) or SUBPROOF(m, D[n], b) (RFC 6962, sections 2.1.1 and 2.1.2).
use Rattle.std.specs.Prelude.{ℕ, ◌-◌, Bool, false, nat_lt, if◌then◌else◌, List, [], ◌∷◌, reverse, Option, Some, None}
use Rattle.std.specs.Option.{option_map}
use Rattle.ct_tree.specs.Tree.{split, hash_node}

-- the root of n leaves that the path q, read from its last element to its first, yields for the leaf hash h at index m
unfoldable pub rebuild_down : (List ℕ → List ℕ) → ℕ → ℕ → List ℕ → List (List ℕ) → Option (List ℕ)
rebuild_down H m n h [] = if nat_lt 1 n then None else Some h
rebuild_down H m n h (s ∷ q) =
    let k = split n in
    if nat_lt 1 n then
    (if nat_lt m k then option_map (λ r. hash_node H r s) (rebuild_down H m k h q)
    else option_map (λ r. hash_node H s r) (rebuild_down H (m - k) (n - k) h q))
    else None

-- the root of n leaves that the path p yields for the leaf hash h at index m, for m < n, from the root down. There is none if p does not
-- have the length of PATH (own form of RFC 6962, section 2.1.1)
unfoldable pub rebuild : (List ℕ → List ℕ) → ℕ → ℕ → List ℕ → List (List ℕ) → Option (List ℕ)
rebuild H m n h p = rebuild_down H m n h (reverse p)

-- both roots are c, if no element is left
abbrev pub same_pair : List ℕ → List (List ℕ) → Option (List ℕ × List ℕ)
same_pair c [] = Some (c, c)
same_pair c (s ∷ q) = None

-- the two roots that the path q yields, read from its last element to its first
unfoldable pub both_down : (List ℕ → List ℕ) → ℕ → ℕ → Bool → List ℕ → List (List ℕ) → Option (List ℕ × List ℕ)
both_down H m n b r [] = if nat_lt m n then None else (if b then Some (r, r) else None)
both_down H m n b r (s ∷ q) =
    let k = split n in
    if nat_lt m n then
    (if nat_lt k m then option_map (λ (x, y). (hash_node H s x, hash_node H s y)) (both_down H (m - k) (n - k) false r q)
    else option_map (λ (x, y). (x, hash_node H y s)) (both_down H m k b r q))
    else (if b then None else same_pair s q)

-- the roots of the first m leaves and of all n that the consistency proof p yields, for 0 < m, m ≤ n, from the root down. If b is true, r
-- is the root of the first m (own form of RFC 6962, section 2.1.2)
unfoldable pub both_roots : (List ℕ → List ℕ) → ℕ → ℕ → Bool → List ℕ → List (List ℕ) → Option (List ℕ × List ℕ)
both_roots H m n b r p = both_down H m n b r (reverse p)
