-- A proof that is accepted against the head of a list is not refused by an explanation.
use Rattle.std.proofs.Common.{ℕ, List, length, Ok, Err, Result, MatchResult}
use Rattle.ct_tree.specs.Tree.{hash_leaf, mth_of_leaves}
use Rattle.ct_verify.proofs.Defined.{accepted_not_refused}
use Rattle.ct_verify.specs.declared.evidence.Evidence.{Evidence}
use Rattle.ct_verify.specs.declared.evidence.EvidenceFault.{EvidenceFault}
use Rattle.ct_verify.specs.declared.evidence.EvidenceFault.TheVariants.{ProofRefused, Memory}
use Rattle.ct_monitor.specs.Audited.{AcceptsInclusion, InclusionEvidence, InclusionFault, IsProofRefused}

pub not_refused : {A : Type 0} (H : List ℕ → List ℕ) (D : List (List ℕ)) (leaf : List ℕ) (m : ℕ) (p : List (List ℕ))
    (result : Result (Evidence A) EvidenceFault)
    → MatchResult result (InclusionEvidence H D leaf m p) (InclusionFault H D leaf m p)
    → AcceptsInclusion H (hash_leaf H leaf) m (length D) p (mth_of_leaves H D) → IsProofRefused result → ⊥
not_refused H D leaf m p (Ok e) x a r = r
not_refused H D leaf m p (Err (ProofRefused v)) x a r = accepted_not_refused H (hash_leaf H leaf) m (length D) p (mth_of_leaves H D) v a x
not_refused H D leaf m p (Err Memory) x a r = r
