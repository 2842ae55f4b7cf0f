-- The meaning of accepted proofs for lists of leaves, or otherwise the strings that collide. H is any hash function on byte lists with
-- hashes of 32 bytes.
use Rattle.std.specs.Prelude.{◌≡◌, ◌⊎◌, ℕ, true, List, ◌∷◌, length, Contains}
use Rattle.ct_tree.specs.Tree.{hash_leaf, mth_of_leaves}
use Rattle.ct_verify.specs.ConsistencyEvidence.{IsAcceptedFor, IsBeginning}
use Rattle.ct_verify.specs.Evidence.{IsAudited}
use Rattle.ct_verify.specs.InclusionEvidence.{IsAccepted}
use Rattle.ct_verify.specs.Laws.{AreHashes}
use Rattle.ct_verify.specs.Hashed.{CollideAmong, IsHashedIn, IsHashedInLog, path_strings, proof_strings}

-- Two lists of equal length with the same root are the same list; or two strings that are hashed in their trees collide.
abbrev pub OneRootIsOfOneList : Type 0
OneRootIsOfOneList =
    (H : List ℕ → List ℕ) → ((x : List ℕ) → length (H x) ≡ 32) → (E D : List (List ℕ)) → length E ≡ length D
    → mth_of_leaves H E ≡ mth_of_leaves H D → (E ≡ D) ⊎ CollideAmong H (λ s. IsHashedIn H E s ⊎ IsHashedIn H D s)

-- The strings that are hashed when a client checks the audit path p of a leaf, and those in the tree of the leaves D.
abbrev pub IsHashedInAudit : (List ℕ → List ℕ) → List (List ℕ) → List ℕ → ℕ → List (List ℕ) → List ℕ → Type 0
IsHashedInAudit H D leaf m p s =
    Contains ((0 ∷ leaf) ∷ path_strings H m (length D) (hash_leaf H leaf) p) s ⊎ IsHashedIn H D s

-- If an audit path p is accepted to the root of the list D, the leaf is the element of D at index m, and p is its PATH; or two strings that
-- are hashed collide.
abbrev pub AcceptedPathIsPath : Type 0
AcceptedPathIsPath =
    (H : List ℕ → List ℕ) → ((x : List ℕ) → length (H x) ≡ 32) → (D : List (List ℕ)) (leaf : List ℕ) (m : ℕ) (p : List (List ℕ))
    → IsAccepted H D leaf m p → IsAudited H D leaf m p ⊎ CollideAmong H (IsHashedInAudit H D leaf m p)

-- The strings that are hashed when the consistency proof p between the lists E and D is checked, and those in the trees of E and of the
-- prefixes of D.
abbrev pub IsHashedBetween : (List ℕ → List ℕ) → List (List ℕ) → List (List ℕ) → List (List ℕ) → List ℕ → Type 0
IsHashedBetween H E D p s =
    Contains (proof_strings H (length E) (length D) true (mth_of_leaves H E) p) s ⊎ (IsHashedIn H E s ⊎ IsHashedInLog H D s)

-- If a consistency proof p (elements of 32 bytes) is accepted between the roots of two lists, the old list E begins the new list D; or two
-- strings that are hashed collide.
abbrev pub AcceptedProofIsOfBeginning : Type 0
AcceptedProofIsOfBeginning =
    (H : List ℕ → List ℕ) → ((x : List ℕ) → length (H x) ≡ 32) → (E D p : List (List ℕ)) → AreHashes p
    → IsAcceptedFor H E D p → IsBeginning E D ⊎ CollideAmong H (IsHashedBetween H E D p)
