-- Consequences for all trees that a witness cosigned. H is any hash function on byte lists with hashes of 32 bytes.
use Rattle.std.specs.Prelude.{◌≡◌, ◌⊎◌, ◌≤◌, ⊤, ℕ, true, List, [], ◌∷◌, ◌++◌, length, take, All, Contains}
use Rattle.ct_tree.specs.Tree.{mth_of_leaves}
use Rattle.ct_verify.specs.Hashed.{CollideAmong, IsHashedInLog, proof_strings}
use Rattle.ct_verify.specs.Laws.{AreHashes}
use Rattle.ct_witness.specs.declared.tree.Tree.{Tree}
use Rattle.ct_witness.specs.Witnessed.{PassesTree}

-- A request that was granted: the old size, the tree, and the proof (elements of 32 bytes).
pub record Granted : Type 0 where
  pub old : ℕ
  pub tree : Tree
  pub proof : List (List ℕ)

-- the tree of no leaves
abbrev pub no_tree : (List ℕ → List ℕ) → Tree
no_tree H = record { size = 0; root = H [] }

-- requests that were granted one after the other, the first of them after the tree `last`
unfoldable pub AreGranted : (List ℕ → List ℕ) → Tree → List Granted → Type 0
AreGranted H last [] = ⊤
AreGranted H last (s ∷ steps) = PassesTree H last s.old s.tree s.proof × AreHashes s.proof × AreGranted H s.tree steps

-- the requests that one witness that follows the rules granted, from its first request on
abbrev pub IsWitness : (List ℕ → List ℕ) → List Granted → Type 0
IsWitness H steps = AreGranted H (no_tree H) steps

-- the tree that was cosigned last
unfoldable pub newest_tree : Tree → List Granted → Tree
newest_tree last [] = last
newest_tree last (s ∷ steps) = newest_tree s.tree steps

-- the tree was cosigned
unfoldable pub IsCosigned : Tree → List Granted → Type 0
IsCosigned t [] = ⊥
IsCosigned t (s ∷ steps) = (t ≡ s.tree) ⊎ IsCosigned t steps

-- the tree is the tree of the leaves D: it has their number, and their MTH as its root
abbrev pub IsTreeOf : (List ℕ → List ℕ) → List (List ℕ) → Tree → Type 0
IsTreeOf H D t = (t.size ≡ length D) × (t.root ≡ mth_of_leaves H D)

-- the tree is the tree of the first leaves of D
abbrev pub IsTreeOfFirst : (List ℕ → List ℕ) → List (List ℕ) → Tree → Type 0
IsTreeOfFirst H D t = (t.size ≤ length D) × (t.root ≡ mth_of_leaves H (take t.size D))

-- the strings that are hashed when the proofs of these requests are checked, the first of which comes after the tree `last`
unfoldable pub granted_strings : (List ℕ → List ℕ) → Tree → List Granted → List (List ℕ)
granted_strings H last [] = []
granted_strings H last (s ∷ steps) = proof_strings H last.size s.tree.size true last.root s.proof ++ granted_strings H s.tree steps

-- the strings that a witness hashes, and those that are hashed in the trees of the prefixes of D
abbrev pub IsHashedOver : (List ℕ → List ℕ) → List Granted → List (List ℕ) → List ℕ → Type 0
IsHashedOver H steps D s = Contains (granted_strings H (no_tree H) steps) s ⊎ IsHashedInLog H D s

-- if the newest tree is the tree of a list, each cosigned tree is the tree of a prefix of it; or two of the hashed strings collide
abbrev pub CosignedGoBack : Type 0
CosignedGoBack =
    (H : List ℕ → List ℕ) → ((x : List ℕ) → length (H x) ≡ 32) → (steps : List Granted) (D : List (List ℕ)) → IsWitness H steps
    → IsTreeOf H D (newest_tree (no_tree H) steps) → All (λ s. IsTreeOfFirst H D s.tree) steps ⊎ CollideAmong H (IsHashedOver H steps D)

-- for every two cosigned trees, if the larger one is the tree of a list, the other one is the tree of a prefix of it; or two of the hashed
-- strings collide
abbrev pub CosignedAgree : Type 0
CosignedAgree =
    (H : List ℕ → List ℕ) → ((x : List ℕ) → length (H x) ≡ 32) → (steps : List Granted) → IsWitness H steps → (a b : Tree)
    → IsCosigned a steps → IsCosigned b steps → a.size ≤ b.size → (D : List (List ℕ)) → IsTreeOf H D b
    → IsTreeOfFirst H D a ⊎ CollideAmong H (IsHashedOver H steps D)
