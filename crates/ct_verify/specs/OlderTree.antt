-- The meaning of an accepted consistency proof for the older tree. H is any hash function on byte lists with hashes of 32 bytes.
use Rattle.std.specs.Prelude.{◌≡◌, ◌⊎◌, ℕ, true, List, length, take, Contains}
use Rattle.ct_tree.specs.Tree.{mth_of_leaves}
use Rattle.ct_verify.specs.Laws.{AreHashes}
use Rattle.ct_verify.specs.Verdict.{AcceptsConsistency}
use Rattle.ct_verify.specs.Hashed.{CollideAmong, IsHashedIn, proof_strings}

-- Let a consistency proof p of elements of 32 bytes lead from size m and root x to MTH of the leaves D. Then x is MTH of the first m of
-- them, or two strings collide that are hashed when the proof is checked or in the tree of D. Nothing is required of x.
abbrev pub ProofGoesBack : Type 0
ProofGoesBack =
    (H : List ℕ → List ℕ) → ((x : List ℕ) → length (H x) ≡ 32) → (D p : List (List ℕ)) (m : ℕ) (x : List ℕ) → AreHashes p
    → AcceptsConsistency H m (length D) x (mth_of_leaves H D) p
    → (x ≡ mth_of_leaves H (take m D)) ⊎ CollideAmong H (λ s. Contains (proof_strings H m (length D) true x p) s ⊎ IsHashedIn H D s)
