-- The meaning of an auditor's results: the verifiers' terms for a tree head, and the terms of the evidence.
use Rattle.std.specs.Prelude.{Ok, Err, ⊤}
use Rattle.std.specs.declared.result.Result.{Result}
use Rattle.ct_verify.specs.declared.evidence.Evidence.{Evidence}
use Rattle.ct_verify.specs.declared.evidence.EvidenceFault.{EvidenceFault}
use Rattle.ct_verify.specs.declared.evidence.EvidenceFault.TheVariants.{ProofRefused, Memory}
pub use Rattle.ct_verify.specs.Verdict.{AcceptsInclusion, RefusesInclusion, AcceptsConsistency, RefusesConsistency}
pub use Rattle.ct_verify.specs.InclusionEvidence.{InclusionEvidence, InclusionFault}
pub use Rattle.ct_verify.specs.Evidence.{IsAudited}

-- the result of an explanation is that the verifier refuses the proof
abbrev pub IsProofRefused : {A : Type 0} → Result (Evidence A) EvidenceFault → Type 0
IsProofRefused (Ok evidence) = ⊥
IsProofRefused (Err (ProofRefused fault)) = ⊤
IsProofRefused (Err Memory) = ⊥
