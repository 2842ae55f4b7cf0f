-- Evidence against an accepted audit path, over the leaves themselves (not their hashes). H is any hash function on
-- byte lists, D the list of leaves, n its length, k the largest power of two smaller than n.
use Rattle.std.specs.Prelude.{◌≡◌, ℕ, ◌-◌, ◌<◌, map, nat_lt, if◌then◌else◌, List, [], ◌∷◌, ◌++◌, length, take, drop, get_or, reverse, Option, Some, None}
use Rattle.std.specs.Str.{bytes_eq}
use Rattle.ct_tree.specs.Tree.{split, hash_leaf, mth_of_leaves, path}
use Rattle.ct_verify.specs.Rebuild.{rebuild_down}

-- a and b differ and have the same hash
abbrev pub Collides : (List ℕ → List ℕ) → List ℕ → List ℕ → Type 0
Collides H a b = (¬ (a ≡ b)) × (H a ≡ H b)

-- the two strings if they differ, and otherwise the result from below
abbrev pub compared : List ℕ → List ℕ → Option (List ℕ × List ℕ) → Option (List ℕ × List ℕ)
compared proved listed below = if bytes_eq proved listed then below else Some (proved, listed)

-- the same for a proof whose string is made from the root r that the proof yields one step down
abbrev pub compared_with : Option (List ℕ) → (List ℕ → List ℕ) → List ℕ → Option (List ℕ × List ℕ) → Option (List ℕ × List ℕ)
compared_with None string listed below = None
compared_with (Some r) string listed below = compared (string r) listed below

-- going down from the root by the path q, from its last element to its first. At n > 1 the proof's string 01 || left || right is compared
-- with the list's 01 || MTH(D[0:k]) || MTH(D[k:n]); at n = 1 the proof's 00 || leaf with the list's 00 || d0
unfoldable pub evid_down : (List ℕ → List ℕ) → List (List ℕ) → List ℕ → ℕ → List (List ℕ) → Option (List ℕ × List ℕ)
evid_down H D leaf m [] = compared (0 ∷ leaf) (0 ∷ get_or D 0 []) None
evid_down H D leaf m (s ∷ q) =
    let n = length D in
    let k = split n in
    let listed = 1 ∷ mth_of_leaves H (take k D) ++ mth_of_leaves H (drop k D) in
    if nat_lt m k
    then compared_with (rebuild_down H m k (hash_leaf H leaf) q) (λ r. 1 ∷ r ++ s) listed (evid_down H (take k D) leaf m q)
    else compared_with (rebuild_down H (m - k) (n - k) (hash_leaf H leaf) q) (λ r. 1 ∷ s ++ r) listed (evid_down H (drop k D) leaf (m - k) q)

-- going down from the root, the first pair of strings in which an audit path p, as long as PATH(m, D[n]), differs from the list: the string
-- that is hashed on the proof's side, then the list's. None if no pair differs
unfoldable pub evid : (List ℕ → List ℕ) → List (List ℕ) → List ℕ → ℕ → List (List ℕ) → Option (List ℕ × List ℕ)
evid H D leaf m p = evid_down H D leaf m (reverse p)

-- the leaf is the list's element at index m, and p is its PATH (RFC 6962, section 2.1.1)
abbrev pub IsAudited : (List ℕ → List ℕ) → List (List ℕ) → List ℕ → ℕ → List (List ℕ) → Type 0
IsAudited H D leaf m p = (m < length D) × (leaf ≡ get_or D m []) × (p ≡ path H m (map (hash_leaf H) D))
