-- The laws of the definitions of subtrees. H is any hash function on byte lists, n the length of D, k the largest power of two smaller than
-- n, and q : c is the proof q ++ c ∷ []. The laws state
-- - what a subtree is, in the words of draft-ietf-plants-merkle-tree-certs, and how the parts of a tree divide it,
-- - the equations of `subtree_subproof` and `subtree_roots`, and when the second is defined,
-- - that every true proof is accepted, and every true path evaluates to the hash of the subtree,
-- - that no accepted proof is refused,
-- - and that no proof is refused in two ways.
use Rattle.std.specs.Prelude.{◌≡◌, ℕ, ◌+◌, ◌-◌, ◌*◌, ◌^◌, ◌<◌, ◌≤◌, ◌↔◌, Bool, true, false, List, [], ◌∷◌, ◌++◌, length, take, drop, get_or, Some, IsSome}
use Rattle.std.specs.Option.{option_map}
use Rattle.ct_tree.specs.Tree.{split, hash_node, mth, path, proof}
use Rattle.ct_verify.specs.Rebuild.{rebuild, both_roots}
use Rattle.ct_subtrees.specs.Subtrees.{IsSubtree, subtree_hash, subtree_path, subtree_subproof, subtree_proof, subtree_length}
use Rattle.ct_subtrees.specs.Roots.{subtree_roots}
use Rattle.ct_subtrees.specs.Verdict.{IsSubtreeOf, IsInSubtree, AcceptsSubtree, RefusesSubtree, EvaluatesTo, RefusesEvaluation}
use Rattle.ct_subtrees.specs.declared.fault.SubtreeFault.{SubtreeFault}

-- 2 ^ j is the smallest power of two that is not below m
abbrev pub IsSmallestPower : ℕ → ℕ → Type 0
IsSmallestPower m j = (m ≤ 2 ^ j) × ((i : ℕ) → i < j → 2 ^ i < m)

-- [s, e) is a subtree exactly if it has leaves and s is a multiple of the smallest power of two that is not below e - s
abbrev pub SubtreeIsMultiple : Type 0
SubtreeIsMultiple = (s e j : ℕ) → s < e → IsSmallestPower (e - s) j → IsSubtree s e ↔ ((q : ℕ) × (s ≡ q * 2 ^ j))

-- a subtree of n > 1 leaves with leaves of both parts begins with the first leaf
abbrev pub SubtreeOfBothParts : Type 0
SubtreeOfBothParts = (s e n k : ℕ) → IsSubtree s e → 1 < n → k ≡ split n → s < k → k < e → s ≡ 0

-- a subtree of n > 1 leaves that is in the right part is a subtree of it
abbrev pub SubtreeOfRightPart : Type 0
SubtreeOfRightPart = (s e n k : ℕ) → IsSubtree s e → e ≤ n → 1 < n → k ≡ split n → k ≤ s → IsSubtree (s - k) (e - k)

-- the first leaves are a subtree
abbrev pub FirstLeavesAreSubtree : Type 0
FirstLeavesAreSubtree = (e : ℕ) → 0 < e → IsSubtree 0 e

-- each leaf is a subtree
abbrev pub LeafIsSubtree : Type 0
LeafIsSubtree = (i : ℕ) → IsSubtree i (i + 1)

-- SUBTREE_SUBPROOF(0, n, D[n], true) = {}
abbrev pub SubtreeSubproofOfKnown : Type 0
SubtreeSubproofOfKnown = (H : List ℕ → List ℕ) (D : List (List ℕ)) → 0 < length D → subtree_subproof H 0 (length D) D true ≡ []

-- SUBTREE_SUBPROOF(0, n, D[n], false) = {MTH(D[n])}
abbrev pub SubtreeSubproofOfUnknown : Type 0
SubtreeSubproofOfUnknown = (H : List ℕ → List ℕ) (D : List (List ℕ)) → 0 < length D → subtree_subproof H 0 (length D) D false ≡ mth H D ∷ []

-- for e <= k SUBTREE_SUBPROOF(s, e, D[n], b) = SUBTREE_SUBPROOF(s, e, D[0:k], b) : MTH(D[k:n])
abbrev pub SubtreeSubproofInLeft : Type 0
SubtreeSubproofInLeft =
    (H : List ℕ → List ℕ) (s e : ℕ) (D : List (List ℕ)) (b : Bool) (k : ℕ) → s < e → 1 < length D → k ≡ split (length D) → e ≤ k
    → subtree_subproof H s e D b ≡ subtree_subproof H s e (take k D) b ++ mth H (drop k D) ∷ []

-- for k <= s SUBTREE_SUBPROOF(s, e, D[n], b) = SUBTREE_SUBPROOF(s - k, e - k, D[k:n], b) : MTH(D[0:k])
abbrev pub SubtreeSubproofInRight : Type 0
SubtreeSubproofInRight =
    (H : List ℕ → List ℕ) (s e : ℕ) (D : List (List ℕ)) (b : Bool) (k : ℕ) → s < e → e ≤ length D → 1 < length D → k ≡ split (length D) → k ≤ s
    → subtree_subproof H s e D b ≡ subtree_subproof H (s - k) (e - k) (drop k D) b ++ mth H (take k D) ∷ []

-- for k < e < n SUBTREE_SUBPROOF(0, e, D[n], b) = SUBTREE_SUBPROOF(0, e - k, D[k:n], false) : MTH(D[0:k])
abbrev pub SubtreeSubproofInBoth : Type 0
SubtreeSubproofInBoth =
    (H : List ℕ → List ℕ) (e : ℕ) (D : List (List ℕ)) (b : Bool) (k : ℕ) → e < length D → 1 < length D → k ≡ split (length D) → k < e
    → subtree_subproof H 0 e D b ≡ subtree_subproof H 0 (e - k) (drop k D) false ++ mth H (take k D) ∷ []

-- subtree_length(s, e, n, b) is the length of SUBTREE_SUBPROOF(s, e, D[n], b)
abbrev pub SubtreeSubproofHasLength : Type 0
SubtreeSubproofHasLength =
    (H : List ℕ → List ℕ) (s e : ℕ) (D : List (List ℕ)) (b : Bool) → s < e → e ≤ length D
    → length (subtree_subproof H s e D b) ≡ subtree_length s e (length D) b

-- the proof of the first m leaves is RFC 6962's consistency proof: for 0 < m < n SUBTREE_PROOF(0, m, D[n]) = PROOF(m, D[n])
abbrev pub ProofOfFirstLeaves : Type 0
ProofOfFirstLeaves = (H : List ℕ → List ℕ) (m : ℕ) (D : List (List ℕ)) → 0 < m → m < length D → subtree_proof H 0 m D ≡ proof H m D

-- the proof of one leaf is its audit path: for i < n SUBTREE_PROOF(i, i + 1, D[n]) = PATH(i, D[n])
abbrev pub ProofOfOneLeaf : Type 0
ProofOfOneLeaf = (H : List ℕ → List ℕ) (i : ℕ) (D : List (List ℕ)) → i < length D → subtree_proof H i (i + 1) D ≡ path H i D

-- subtree_roots(0, n, n, true, r, {}) = (r, r)
abbrev pub RootsOfKnown : Type 0
RootsOfKnown = (H : List ℕ → List ℕ) (n : ℕ) (r : List ℕ) → 0 < n → subtree_roots H 0 n n true r [] ≡ Some (r, r)

-- subtree_roots(0, n, n, false, r, {c}) = (c, c)
abbrev pub RootsOfUnknown : Type 0
RootsOfUnknown = (H : List ℕ → List ℕ) (n : ℕ) (r c : List ℕ) → 0 < n → subtree_roots H 0 n n false r (c ∷ []) ≡ Some (c, c)

-- for e <= k subtree_roots(s, e, n, b, r, q : c) = (x, H(01 || y || c)) with (x, y) = subtree_roots(s, e, k, b, r, q)
abbrev pub RootsInLeft : Type 0
RootsInLeft =
    (H : List ℕ → List ℕ) (s e n k : ℕ) (b : Bool) (r c : List ℕ) (q : List (List ℕ)) → s < e → 1 < n → k ≡ split n → e ≤ k
    → subtree_roots H s e n b r (q ++ c ∷ []) ≡ option_map (λ (x, y). (x, hash_node H y c)) (subtree_roots H s e k b r q)

-- for k <= s subtree_roots(s, e, n, b, r, q : c) = (x, H(01 || c || y)) with (x, y) = subtree_roots(s - k, e - k, n - k, b, r, q)
abbrev pub RootsInRight : Type 0
RootsInRight =
    (H : List ℕ → List ℕ) (s e n k : ℕ) (b : Bool) (r c : List ℕ) (q : List (List ℕ)) → s < e → e ≤ n → 1 < n → k ≡ split n → k ≤ s
    → subtree_roots H s e n b r (q ++ c ∷ []) ≡ option_map (λ (x, y). (x, hash_node H c y)) (subtree_roots H (s - k) (e - k) (n - k) b r q)

-- for k < e < n subtree_roots(0, e, n, b, r, q : c) = (H(01 || c || x), H(01 || c || y)) with
-- (x, y) = subtree_roots(0, e - k, n - k, false, r, q)
abbrev pub RootsInBoth : Type 0
RootsInBoth =
    (H : List ℕ → List ℕ) (e n k : ℕ) (b : Bool) (r c : List ℕ) (q : List (List ℕ)) → e < n → 1 < n → k ≡ split n → k < e
    → subtree_roots H 0 e n b r (q ++ c ∷ []) ≡ option_map (λ (x, y). (hash_node H c x, hash_node H c y)) (subtree_roots H 0 (e - k) (n - k) false r q)

-- for s < e <= n two hashes are rebuilt exactly from a proof as long as SUBTREE_SUBPROOF(s, e, D[n], b)
abbrev pub RootsDefined : Type 0
RootsDefined =
    (H : List ℕ → List ℕ) (s e n : ℕ) (b : Bool) (r : List ℕ) (p : List (List ℕ)) → s < e → e ≤ n
    → IsSome (subtree_roots H s e n b r p) ↔ (length p ≡ subtree_length s e n b)

-- for the first m leaves these are the two roots of a consistency proof
abbrev pub RootsOfFirstLeaves : Type 0
RootsOfFirstLeaves =
    (H : List ℕ → List ℕ) (m n : ℕ) (x : List ℕ) (p : List (List ℕ)) → 0 < m → m ≤ n → subtree_roots H 0 m n true x p ≡ both_roots H m n true x p

-- for one leaf they are its hash and the root of its audit path
abbrev pub RootsOfOneLeaf : Type 0
RootsOfOneLeaf =
    (H : List ℕ → List ℕ) (i n : ℕ) (h : List ℕ) (p : List (List ℕ)) → i < n
    → subtree_roots H i (i + 1) n true h p ≡ option_map (λ y. (h, y)) (rebuild H i n h p)

-- a SUBTREE_PROOF rebuilds MTH of the leaves of the subtree and of all leaves
abbrev pub SubtreeProofRebuilds : Type 0
SubtreeProofRebuilds =
    (H : List ℕ → List ℕ) (s e : ℕ) (D : List (List ℕ)) → IsSubtreeOf s e (length D)
    → subtree_roots H s e (length D) true (subtree_hash H s e D) (subtree_proof H s e D) ≡ Some (subtree_hash H s e D, mth H D)

-- so every SUBTREE_PROOF is accepted
abbrev pub SubtreeProofAccepted : Type 0
SubtreeProofAccepted =
    (H : List ℕ → List ℕ) (s e : ℕ) (D : List (List ℕ)) → IsSubtreeOf s e (length D)
    → AcceptsSubtree H s e (length D) (subtree_hash H s e D) (mth H D) (subtree_proof H s e D)

-- an accepted proof is not refused
abbrev pub SubtreeProofNotRefused : Type 0
SubtreeProofNotRefused =
    (H : List ℕ → List ℕ) (s e n : ℕ) (x y : List ℕ) (p : List (List ℕ)) (fault : SubtreeFault)
    → AcceptsSubtree H s e n x y p → ¬ (RefusesSubtree H s e n x y p fault)

-- no proof is refused in two ways
abbrev pub SubtreeProofOneRefusal : Type 0
SubtreeProofOneRefusal =
    (H : List ℕ → List ℕ) (s e n : ℕ) (x y : List ℕ) (p : List (List ℕ)) (one other : SubtreeFault)
    → RefusesSubtree H s e n x y p one → RefusesSubtree H s e n x y p other → one ≡ other

-- the path of a leaf in a subtree of the list D evaluates to the hash of the subtree
abbrev pub SubtreePathEvaluates : Type 0
SubtreePathEvaluates =
    (H : List ℕ → List ℕ) (i s e : ℕ) (D : List (List ℕ)) → IsInSubtree i s e → e ≤ length D
    → EvaluatesTo H i s e (get_or D i []) (subtree_path H i s e D) (subtree_hash H s e D)

-- a path that evaluates to a hash is not refused
abbrev pub SubtreePathNotRefused : Type 0
SubtreePathNotRefused =
    (H : List ℕ → List ℕ) (i s e : ℕ) (h : List ℕ) (p : List (List ℕ)) (x : List ℕ) (fault : SubtreeFault)
    → EvaluatesTo H i s e h p x → ¬ (RefusesEvaluation i s e p fault)

-- no path is refused in two ways
abbrev pub SubtreePathOneRefusal : Type 0
SubtreePathOneRefusal =
    (i s e : ℕ) (p : List (List ℕ)) (one other : SubtreeFault) → RefusesEvaluation i s e p one → RefusesEvaluation i s e p other → one ≡ other
