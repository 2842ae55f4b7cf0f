-- The Merkle tree of RFC 6962, section 2.1, over any hash function H on byte lists. The letters are the RFC's: D is the list of leaves,
-- here of their hashes, n its length, and k the largest power of two smaller than n. D[0:k] is `take k D`, D[k:n] is `drop k D`, and `x :
-- y` is `x ++ y ∷ []`. A definition that calls itself on the two parts of D counts down a `depth` that begins at n. The crate's module
-- `laws` shows the RFC's equations without it.
use Rattle.std.specs.Prelude.{ℕ, zero, suc, ◌-◌, ◌*◌, Bool, true, false, nat_lt, if◌then◌else◌, List, [], ◌∷◌, ◌++◌, length, take, drop, map}

-- k doubled for as long as it stays below n
unfoldable pub doubled : ℕ → ℕ → ℕ → ℕ
doubled zero n k = k
doubled (suc steps) n k = if nat_lt (2 * k) n then doubled steps n (2 * k) else k

-- the largest power of two smaller than n, for n > 1 (RFC 6962, section 2.1)
unfoldable pub split : ℕ → ℕ
split n = doubled n n 1

-- the hash of a leaf: H(00 || leaf) (RFC 6962, section 2.1)
abbrev pub hash_leaf : (List ℕ → List ℕ) → List ℕ → List ℕ
hash_leaf H leaf = H (0 ∷ leaf)

-- the hash of an inner node: H(01 || left || right) (RFC 6962, section 2.1)
abbrev pub hash_node : (List ℕ → List ℕ) → List ℕ → List ℕ → List ℕ
hash_node H left right = H (1 ∷ left ++ right)

-- MTH({}) and MTH({d0})
abbrev pub mth_small : (List ℕ → List ℕ) → List (List ℕ) → List ℕ
mth_small H [] = H []
mth_small H (hash ∷ rest) = hash

-- MTH(D[n]), by recursion that counts down a bound
unfoldable pub mth_within : (List ℕ → List ℕ) → ℕ → List (List ℕ) → List ℕ
mth_within H zero D = mth_small H D
mth_within H (suc depth) D =
    let k = split (length D) in
    if nat_lt 1 (length D)
    then hash_node H (mth_within H depth (take k D)) (mth_within H depth (drop k D))
    else mth_small H D

-- the Merkle tree hash MTH(D[n]), of a list of leaf hashes (RFC 6962, section 2.1)
unfoldable pub mth : (List ℕ → List ℕ) → List (List ℕ) → List ℕ
mth H D = mth_within H (length D) D

-- the Merkle tree hash MTH(D[n]), of a list of leaves (RFC 6962, section 2.1)
abbrev pub mth_of_leaves : (List ℕ → List ℕ) → List (List ℕ) → List ℕ
mth_of_leaves H leaves = mth H (map (hash_leaf H) leaves)

-- PATH(m, D[n]), by recursion that counts down a bound
unfoldable pub path_within : (List ℕ → List ℕ) → ℕ → ℕ → List (List ℕ) → List (List ℕ)
path_within H zero m D = []
path_within H (suc depth) m D =
    let k = split (length D) in
    if nat_lt 1 (length D)
    then (if nat_lt m k
    then path_within H depth m (take k D) ++ mth H (drop k D) ∷ []
    else path_within H depth (m - k) (drop k D) ++ mth H (take k D) ∷ [])
    else []

-- the audit path PATH(m, D[n]), for m < n (RFC 6962, section 2.1.1)
unfoldable pub path : (List ℕ → List ℕ) → ℕ → List (List ℕ) → List (List ℕ)
path H m D = path_within H (length D) m D

-- SUBPROOF(m, D[m], b)
abbrev pub subproof_whole : (List ℕ → List ℕ) → List (List ℕ) → Bool → List (List ℕ)
subproof_whole H D b = if b then [] else mth H D ∷ []

-- SUBPROOF(m, D[n], b), by recursion that counts down a bound
unfoldable pub subproof_within : (List ℕ → List ℕ) → ℕ → ℕ → List (List ℕ) → Bool → List (List ℕ)
subproof_within H zero m D b = subproof_whole H D b
subproof_within H (suc depth) m D b =
    let k = split (length D) in
    if nat_lt m (length D)
    then (if nat_lt k m
    then subproof_within H depth (m - k) (drop k D) false ++ mth H (take k D) ∷ []
    else subproof_within H depth m (take k D) b ++ mth H (drop k D) ∷ [])
    else subproof_whole H D b

-- SUBPROOF(m, D[n], b), for 0 < m <= n (RFC 6962, section 2.1.2)
unfoldable pub subproof : (List ℕ → List ℕ) → ℕ → List (List ℕ) → Bool → List (List ℕ)
subproof H m D b = subproof_within H (length D) m D b

-- the consistency proof PROOF(m, D[n]), for 0 < m < n (RFC 6962, section 2.1.2)
abbrev pub proof : (List ℕ → List ℕ) → ℕ → List (List ℕ) → List (List ℕ)
proof H m D = subproof H m D true
