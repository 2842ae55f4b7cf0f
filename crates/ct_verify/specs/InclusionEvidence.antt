-- The meaning of the evidence for an audit path, about the leaves D.
use Rattle.std.specs.Prelude.{◌≡◌, ℕ, List, length, Some, None}
use Rattle.ct_tree.specs.Tree.{hash_leaf, mth_of_leaves}
use Rattle.ct_verify.specs.Evidence.{Collides, evid, IsAudited}
use Rattle.ct_verify.specs.Verdict.{AcceptsInclusion, RefusesInclusion}
use Rattle.ct_verify.specs.declared.evidence.Evidence.{Evidence}
use Rattle.ct_verify.specs.declared.evidence.Evidence.TheVariants.{Holds, Collision}
use Rattle.ct_verify.specs.declared.evidence.EvidenceFault.{EvidenceFault}
use Rattle.ct_verify.specs.declared.evidence.EvidenceFault.TheVariants.{ProofRefused, Memory}

-- the path is accepted against MTH of the leaves and their number
abbrev pub IsAccepted : (List ℕ → List ℕ) → List (List ℕ) → List ℕ → ℕ → List (List ℕ) → Type 0
IsAccepted H D leaf m p = AcceptsInclusion H (hash_leaf H leaf) m (length D) p (mth_of_leaves H D)

-- Holds: accepted against MTH of the list, and no string differs, so the leaf and the path are the list's. Collision: accepted, and these
-- are the first strings that differ, and they have the same hash
abbrev pub InclusionEvidence : {A : Type 0} → (List ℕ → List ℕ) → List (List ℕ) → List ℕ → ℕ → List (List ℕ) → Evidence A → Type 0
InclusionEvidence H D leaf m p Holds = IsAccepted H D leaf m p × (evid H D leaf m p ≡ None) × IsAudited H D leaf m p
InclusionEvidence H D leaf m p (Collision a b) =
    IsAccepted H D leaf m p × (evid H D leaf m p ≡ Some (a.items, b.items)) × Collides H a.items b.items

-- ProofRefused: the verifier's own refusal. Memory: accepted, and some strings differ
abbrev pub InclusionFault : (List ℕ → List ℕ) → List (List ℕ) → List ℕ → ℕ → List (List ℕ) → EvidenceFault → Type 0
InclusionFault H D leaf m p (ProofRefused v) = RefusesInclusion H (hash_leaf H leaf) m (length D) p (mth_of_leaves H D) v
InclusionFault H D leaf m p Memory = IsAccepted H D leaf m p × ((a b : List ℕ) × (evid H D leaf m p ≡ Some (a, b)))
