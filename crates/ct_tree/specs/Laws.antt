-- The equations of RFC 6962, section 2.1, as laws of the definitions in Tree and Lengths. H is any hash function; D is
-- a list of leaf hashes and n its length.
use Rattle.std.specs.Prelude.{◌≡◌, ◌↔◌, ℕ, ◌-◌, ◌*◌, ◌^◌, ◌<◌, ◌≤◌, Bool, true, false, List, [], ◌∷◌, ◌++◌, length, take, drop}
use Rattle.ct_tree.specs.Tree.{split, hash_leaf, hash_node, mth, mth_of_leaves, path, subproof, proof}
use Rattle.ct_tree.specs.Lengths.{path_length, subproof_length}

-- k is a power of two with k < n <= 2k
abbrev pub IsLargestPowerBelow : ℕ → ℕ → Type 0
IsLargestPowerBelow n k = ((exponent : ℕ) × (k ≡ 2 ^ exponent)) × (k < n) × (n ≤ 2 * k)

-- for n > 1 `split n` is the only power of two k with k < n <= 2k
abbrev pub SplitIsLargestPowerBelow : Type 0
SplitIsLargestPowerBelow = (n k : ℕ) → 1 < n → (k ≡ split n) ↔ IsLargestPowerBelow n k

-- MTH({}) = H()
abbrev pub MthOfNone : Type 0
MthOfNone = (H : List ℕ → List ℕ) → mth H [] ≡ H []

-- MTH({d0}) is the one leaf's hash
abbrev pub MthOfOne : Type 0
MthOfOne = (H : List ℕ → List ℕ) (hash : List ℕ) → mth H (hash ∷ []) ≡ hash

-- for n > 1 MTH(D[n]) = H(01 || MTH(D[0:k]) || MTH(D[k:n]))
abbrev pub MthOfMore : Type 0
MthOfMore =
    (H : List ℕ → List ℕ) (D : List (List ℕ)) (k : ℕ) → 1 < length D → k ≡ split (length D)
    → mth H D ≡ hash_node H (mth H (take k D)) (mth H (drop k D))

-- the same over leaves: MTH({}) = H()
abbrev pub MthOfNoLeaves : Type 0
MthOfNoLeaves = (H : List ℕ → List ℕ) → mth_of_leaves H [] ≡ H []

-- over leaves: MTH({d0}) = H(00 || d0)
abbrev pub MthOfOneLeaf : Type 0
MthOfOneLeaf = (H : List ℕ → List ℕ) (leaf : List ℕ) → mth_of_leaves H (leaf ∷ []) ≡ hash_leaf H leaf

-- over leaves: for n > 1 MTH(D[n]) = H(01 || MTH(D[0:k]) || MTH(D[k:n]))
abbrev pub MthOfMoreLeaves : Type 0
MthOfMoreLeaves =
    (H : List ℕ → List ℕ) (leaves : List (List ℕ)) (k : ℕ) → 1 < length leaves → k ≡ split (length leaves)
    → mth_of_leaves H leaves ≡ hash_node H (mth_of_leaves H (take k leaves)) (mth_of_leaves H (drop k leaves))

-- PATH(0, {d0}) = {}
abbrev pub PathOfOne : Type 0
PathOfOne = (H : List ℕ → List ℕ) (hash : List ℕ) → path H 0 (hash ∷ []) ≡ []

-- for n > 1 and m < k PATH(m, D[n]) = PATH(m, D[0:k]) : MTH(D[k:n])
abbrev pub PathInLeft : Type 0
PathInLeft =
    (H : List ℕ → List ℕ) (m : ℕ) (D : List (List ℕ)) (k : ℕ) → 1 < length D → k ≡ split (length D) → m < k
    → path H m D ≡ path H m (take k D) ++ mth H (drop k D) ∷ []

-- for n > 1 and m >= k PATH(m, D[n]) = PATH(m - k, D[k:n]) : MTH(D[0:k])
abbrev pub PathInRight : Type 0
PathInRight =
    (H : List ℕ → List ℕ) (m : ℕ) (D : List (List ℕ)) (k : ℕ) → 1 < length D → k ≡ split (length D) → k ≤ m
    → path H m D ≡ path H (m - k) (drop k D) ++ mth H (take k D) ∷ []

-- for 0 < m < n PROOF(m, D[n]) = SUBPROOF(m, D[n], true)
abbrev pub ProofIsSubproof : Type 0
ProofIsSubproof =
    (H : List ℕ → List ℕ) (m : ℕ) (D : List (List ℕ)) → 0 < m → m < length D → proof H m D ≡ subproof H m D true

-- SUBPROOF(m, D[m], true) = {}
abbrev pub SubproofOfKnown : Type 0
SubproofOfKnown = (H : List ℕ → List ℕ) (m : ℕ) (D : List (List ℕ)) → 0 < m → m ≡ length D → subproof H m D true ≡ []

-- SUBPROOF(m, D[m], false) = {MTH(D[m])}
abbrev pub SubproofOfUnknown : Type 0
SubproofOfUnknown =
    (H : List ℕ → List ℕ) (m : ℕ) (D : List (List ℕ)) → 0 < m → m ≡ length D → subproof H m D false ≡ mth H D ∷ []

-- for 0 < m < n and m <= k SUBPROOF(m, D[n], b) = SUBPROOF(m, D[0:k], b) : MTH(D[k:n])
abbrev pub SubproofInLeft : Type 0
SubproofInLeft =
    (H : List ℕ → List ℕ) (m : ℕ) (D : List (List ℕ)) (b : Bool) (k : ℕ) → 0 < m → m < length D → k ≡ split (length D) → m ≤ k
    → subproof H m D b ≡ subproof H m (take k D) b ++ mth H (drop k D) ∷ []

-- for m < n and m > k SUBPROOF(m, D[n], b) = SUBPROOF(m - k, D[k:n], false) : MTH(D[0:k])
abbrev pub SubproofInRight : Type 0
SubproofInRight =
    (H : List ℕ → List ℕ) (m : ℕ) (D : List (List ℕ)) (b : Bool) (k : ℕ) → m < length D → k ≡ split (length D) → k < m
    → subproof H m D b ≡ subproof H (m - k) (drop k D) false ++ mth H (take k D) ∷ []

-- path_length(m, n) is the length of PATH(m, D[n])
abbrev pub PathHasLength : Type 0
PathHasLength =
    (H : List ℕ → List ℕ) (m : ℕ) (D : List (List ℕ)) → m < length D → length (path H m D) ≡ path_length m (length D)

-- subproof_length(m, n, b) is the length of SUBPROOF(m, D[n], b)
abbrev pub SubproofHasLength : Type 0
SubproofHasLength =
    (H : List ℕ → List ℕ) (m : ℕ) (D : List (List ℕ)) (b : Bool) → 0 < m → m ≤ length D
    → length (subproof H m D b) ≡ subproof_length m (length D) b
