-- The meaning of the evidence for a consistency proof, about the old leaves E and the new ones D.
use Rattle.std.specs.Prelude.{◌≡◌, ℕ, true, List, length, take, Some}
use Rattle.ct_tree.specs.Tree.{mth_of_leaves}
use Rattle.ct_verify.specs.Evidence.{Collides}
use Rattle.ct_verify.specs.Clash.{ClashAlong}
use Rattle.ct_verify.specs.Verdict.{AcceptsConsistency, RefusesConsistency}
use Rattle.ct_verify.specs.declared.evidence.Evidence.{Evidence}
use Rattle.ct_verify.specs.declared.evidence.Evidence.TheVariants.{Holds, Collision}
use Rattle.ct_verify.specs.declared.evidence.EvidenceFault.{EvidenceFault}
use Rattle.ct_verify.specs.declared.evidence.EvidenceFault.TheVariants.{ProofRefused, Memory}

-- the proof is accepted against MTH of both lists and their numbers
abbrev pub IsAcceptedFor : (List ℕ → List ℕ) → List (List ℕ) → List (List ℕ) → List (List ℕ) → Type 0
IsAcceptedFor H E D p = AcceptsConsistency H (length E) (length D) (mth_of_leaves H E) (mth_of_leaves H D) p

-- a list is the beginning of another one
abbrev pub IsBeginning : {X : Type 0} → List X → List X → Type 0
IsBeginning {X} E D = E ≡ take (length E) D

-- Holds: accepted, and the old list begins the new one. Collision: accepted, the old list does not begin the new one, and these are two
-- strings that differ and have the same hash, the first clash along the proof
abbrev pub ConsistencyEvidence : {A : Type 0} → (List ℕ → List ℕ) → List (List ℕ) → List (List ℕ) → List (List ℕ) → Evidence A → Type 0
ConsistencyEvidence H E D p Holds = IsAcceptedFor H E D p × IsBeginning E D
ConsistencyEvidence H E D p (Collision a b) =
    IsAcceptedFor H E D p × (¬ IsBeginning E D) × Collides H a.items b.items
    × ClashAlong H true (mth_of_leaves H E) E D p (Some (a.items, b.items))

-- ProofRefused: the verifier's own refusal. Memory: accepted, and the old list does not begin the new one
abbrev pub ConsistencyFault : (List ℕ → List ℕ) → List (List ℕ) → List (List ℕ) → List (List ℕ) → EvidenceFault → Type 0
ConsistencyFault H E D p (ProofRefused v) = RefusesConsistency H (length E) (length D) (mth_of_leaves H E) (mth_of_leaves H D) p v
ConsistencyFault H E D p Memory = IsAcceptedFor H E D p × (¬ IsBeginning E D)
