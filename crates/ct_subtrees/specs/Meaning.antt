-- The meaning of accepted proofs of subtrees for the list of leaves D of the tree. H is any hash function on byte lists with hashes of 32
-- bytes.
use Rattle.std.specs.Prelude.{◌≡◌, ◌⊎◌, ℕ, ◌-◌, ◌<◌, true, List, [], ◌∷◌, ◌++◌, length, get_or, map, Contains}
use Rattle.ct_tree.specs.Tree.{hash_leaf, mth_of_leaves}
use Rattle.ct_verify.specs.Hashed.{CollideAmong, IsHashedIn, path_strings}
use Rattle.ct_verify.specs.Laws.{AreHashes}
use Rattle.ct_subtrees.specs.Hashed.{subtree_strings}
use Rattle.ct_subtrees.specs.Subtrees.{slice, subtree_path, subtree_proof}
use Rattle.ct_subtrees.specs.Verdict.{AcceptsSubtree, EvaluatesTo}

-- The strings that are hashed when the consistency proof p of the subtree [s, e) with the hash x is checked, and those in the tree of D.
abbrev pub IsHashedInSubtreeCheck : (List ℕ → List ℕ) → ℕ → ℕ → List ℕ → List (List ℕ) → List (List ℕ) → List ℕ → Type 0
IsHashedInSubtreeCheck H s e x D p t = Contains (subtree_strings H s e (length D) true x p) t ⊎ IsHashedIn H D t

-- x is the hash of the leaves D[s:e], and p is their SUBTREE_PROOF
abbrev pub IsSubtreeOfList : (List ℕ → List ℕ) → ℕ → ℕ → List ℕ → List (List ℕ) → List (List ℕ) → Type 0
IsSubtreeOfList H s e x D p = (x ≡ mth_of_leaves H (slice s e D)) × (p ≡ subtree_proof H s e (map (hash_leaf H) D))

-- If a consistency proof p (elements of 32 bytes) of the subtree [s, e) with the hash x is accepted under MTH of the leaves D, x is the hash
-- of the leaves D[s:e] and p is their SUBTREE_PROOF; or two strings that are hashed collide. Nothing is required of x.
abbrev pub AcceptedSubtreeIsOfList : Type 0
AcceptedSubtreeIsOfList =
    (H : List ℕ → List ℕ) → ((z : List ℕ) → length (H z) ≡ 32) → (D : List (List ℕ)) (s e : ℕ) (x : List ℕ) (p : List (List ℕ)) → AreHashes p
    → AcceptsSubtree H s e (length D) x (mth_of_leaves H D) p
    → IsSubtreeOfList H s e x D p ⊎ CollideAmong H (IsHashedInSubtreeCheck H s e x D p)

-- The strings that are hashed when the path q of a leaf at index i in the subtree [s, e) is checked, and those in the tree of D[s:e].
abbrev pub IsHashedInLeafCheck : (List ℕ → List ℕ) → ℕ → ℕ → ℕ → List (List ℕ) → List ℕ → List (List ℕ) → List ℕ → Type 0
IsHashedInLeafCheck H i s e D leaf q t =
    Contains ((0 ∷ leaf) ∷ path_strings H (i - s) (e - s) (hash_leaf H leaf) q) t ⊎ IsHashedIn H (slice s e D) t

-- the leaf is the element of D at index i, and q is its path in the subtree [s, e)
abbrev pub IsEntryAt : (List ℕ → List ℕ) → ℕ → ℕ → ℕ → List (List ℕ) → List ℕ → List (List ℕ) → Type 0
IsEntryAt H i s e D leaf q = (i < length D) × (leaf ≡ get_or D i []) × (q ≡ subtree_path H i s e (map (hash_leaf H) D))

-- A serial number names one entry. Let a consistency proof p (elements of 32 bytes) of the subtree [s, e) with the hash x be accepted under
-- MTH of the leaves D, and let a path q evaluate a leaf at index i in the subtree to x. Then the leaf is the element of D at index i, and q
-- is its path; or two strings that are hashed collide.
abbrev pub SerialNumberNamesEntry : Type 0
SerialNumberNamesEntry =
    (H : List ℕ → List ℕ) → ((z : List ℕ) → length (H z) ≡ 32) → (D : List (List ℕ)) (s e : ℕ) (x : List ℕ) (p : List (List ℕ)) → AreHashes p
    → AcceptsSubtree H s e (length D) x (mth_of_leaves H D) p
    → (i : ℕ) (leaf : List ℕ) (q : List (List ℕ)) → EvaluatesTo H i s e (hash_leaf H leaf) q x
    → IsEntryAt H i s e D leaf q ⊎ CollideAmong H (λ t. IsHashedInSubtreeCheck H s e x D p t ⊎ IsHashedInLeafCheck H i s e D leaf q t)

-- Two leaves whose paths evaluate to one hash for the same index of one subtree are the same leaf, with the same path; or two strings that
-- are hashed when the paths are checked collide. No list is required.
abbrev pub SubtreeHashShowsOneLeaf : Type 0
SubtreeHashShowsOneLeaf =
    (H : List ℕ → List ℕ) → ((z : List ℕ) → length (H z) ≡ 32) → (i s e : ℕ) (x : List ℕ) (leaf other : List ℕ) (p q : List (List ℕ))
    → EvaluatesTo H i s e (hash_leaf H leaf) p x → EvaluatesTo H i s e (hash_leaf H other) q x
    → ((leaf ≡ other) × (p ≡ q))
    ⊎ CollideAmong H (Contains ((0 ∷ leaf) ∷ path_strings H (i - s) (e - s) (hash_leaf H leaf) p
    ++ (0 ∷ other) ∷ path_strings H (i - s) (e - s) (hash_leaf H other) q))
