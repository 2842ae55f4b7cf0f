-- Subtrees of the Merkle tree of RFC 6962, section 2.1, and their proofs. H is any hash function on byte lists, D is the list of leaf
-- hashes, n its length, and k the largest power of two smaller than n. A subtree is named by two indexes s and e: it has the leaves D[s:e].
-- `x : y` is `x ++ y ∷ []`. A definition that calls itself on the two parts of D counts down a `depth` that begins at n. The crate's module
-- `laws` shows the equations without it.
use Rattle.std.specs.Prelude.{◌≡◌, ℕ, zero, suc, ◌+◌, ◌-◌, ◌*◌, ◌^◌, ◌<◌, ◌≤◌, Bool, true, false, nat_lt, if◌then◌else◌, List, [], ◌∷◌, ◌++◌, length, take, drop}
use Rattle.ct_tree.specs.Tree.{split, mth, path, subproof_whole}

-- [s, e) has leaves, and they begin a block of 2 ^ j leaves whose first index is a multiple of 2 ^ j. So s is a multiple of the smallest
-- power of two that is not below e - s (as draft-ietf-plants-merkle-tree-certs, section 4.1)
abbrev pub IsSubtree : ℕ → ℕ → Type 0
IsSubtree s e = (s < e) × ((j q : ℕ) × (s ≡ q * 2 ^ j) × (e ≤ s + 2 ^ j))

-- D[s:e], the elements from index s to index e - 1
abbrev pub slice : {X : Type 0} → ℕ → ℕ → List X → List X
slice s e D = drop s (take e D)

-- the hash of the subtree [s, e): MTH(D[s:e]) (RFC 6962, section 2.1)
abbrev pub subtree_hash : (List ℕ → List ℕ) → ℕ → ℕ → List (List ℕ) → List ℕ
subtree_hash H s e D = mth H (slice s e D)

-- the inclusion proof of the leaf at index i in the subtree [s, e), for s <= i < e: PATH(i - s, D[s:e]) (RFC 6962, section 2.1.1)
abbrev pub subtree_path : (List ℕ → List ℕ) → ℕ → ℕ → ℕ → List (List ℕ) → List (List ℕ)
subtree_path H i s e D = path H (i - s) (slice s e D)

-- [s, e) is the whole tree of n leaves, for e <= n
abbrev pub is_whole : ℕ → ℕ → ℕ → Bool
is_whole s e n = if nat_lt 0 s then false else (if nat_lt e n then false else true)

-- SUBTREE_SUBPROOF(s, e, D[n], b), by recursion that counts down a bound
unfoldable pub subtree_subproof_within : (List ℕ → List ℕ) → ℕ → ℕ → ℕ → List (List ℕ) → Bool → List (List ℕ)
subtree_subproof_within H zero s e D b = subproof_whole H D b
subtree_subproof_within H (suc depth) s e D b =
    let k = split (length D) in
    if is_whole s e (length D)
    then subproof_whole H D b
    else (if nat_lt k e
    then (if nat_lt s k
    then subtree_subproof_within H depth 0 (e - k) (drop k D) false ++ mth H (take k D) ∷ []
    else subtree_subproof_within H depth (s - k) (e - k) (drop k D) b ++ mth H (take k D) ∷ [])
    else subtree_subproof_within H depth s e (take k D) b ++ mth H (drop k D) ∷ [])

-- SUBTREE_SUBPROOF(s, e, D[n], b), for a subtree [s, e) with e <= n (as draft-ietf-plants-merkle-tree-certs, section 4.4). If b is true,
-- the verifier knows the hash of the subtree
unfoldable pub subtree_subproof : (List ℕ → List ℕ) → ℕ → ℕ → List (List ℕ) → Bool → List (List ℕ)
subtree_subproof H s e D b = subtree_subproof_within H (length D) s e D b

-- the consistency proof SUBTREE_PROOF(s, e, D[n]) of the subtree [s, e), for e <= n (as draft-ietf-plants-merkle-tree-certs, section 4.4)
abbrev pub subtree_proof : (List ℕ → List ℕ) → ℕ → ℕ → List (List ℕ) → List (List ℕ)
subtree_proof H s e D = subtree_subproof H s e D true

-- the length of SUBTREE_SUBPROOF(s, e, D[n], b), by recursion that counts down a bound
unfoldable pub subtree_length_within : ℕ → ℕ → ℕ → ℕ → Bool → ℕ
subtree_length_within zero s e n b = if b then 0 else 1
subtree_length_within (suc depth) s e n b =
    if is_whole s e n
    then (if b then 0 else 1)
    else suc (if nat_lt (split n) e
    then (if nat_lt s (split n)
    then subtree_length_within depth 0 (e - split n) (n - split n) false
    else subtree_length_within depth (s - split n) (e - split n) (n - split n) b)
    else subtree_length_within depth s e (split n) b)

-- the length of SUBTREE_SUBPROOF(s, e, D[n], b), by the same recursion on sizes
unfoldable pub subtree_length : ℕ → ℕ → ℕ → Bool → ℕ
subtree_length s e n b = subtree_length_within n s e n b
