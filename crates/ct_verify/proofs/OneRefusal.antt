-- No path and no proof has two different refusals.
use Rattle.std.proofs.Common.{refl, ◌≡◌, ℕ, sym, ◌∙◌, ap, arith, List, length, true}
use Rattle.ct_verify.proofs.Defined.{both_defined_length, not_empty}
use Rattle.ct_verify.proofs.Options.{same_some}
use Rattle.ct_verify.specs.Verdict.{RefusesInclusion, RefusesConsistency}
use Rattle.ct_verify.specs.declared.fault.ProofFault.{ProofFault}
use Rattle.ct_verify.specs.declared.fault.ProofFault.TheVariants.{IndexOutOfRange, PathTooLong, PathTooShort, RootMismatch, EmptyPath, FirstMismatch}
use Rattle.ct_verify.specs.declared.fault.ProofFault.TheVariants.{SizesOutOfRange}

module _ (H : List ℕ → List ℕ) where
  pub one_path_refusal : (h : List ℕ) (m n : ℕ) (p : List (List ℕ)) (root : List ℕ) (f g : ProofFault) → RefusesInclusion H h m n p root f
      → RefusesInclusion H h m n p root g → f ≡ g
  one_path_refusal h m n p root IndexOutOfRange IndexOutOfRange r s = refl
  one_path_refusal h m n p root IndexOutOfRange PathTooLong r s = absurd (omega (arith, r, s.0))
  one_path_refusal h m n p root IndexOutOfRange PathTooShort r s = absurd (omega (arith, r, s.0))
  one_path_refusal h m n p root IndexOutOfRange RootMismatch r s = absurd (omega (arith, r, s.0))
  one_path_refusal h m n p root PathTooLong IndexOutOfRange r s = absurd (omega (arith, r.0, s))
  one_path_refusal h m n p root PathTooLong PathTooLong r s = refl
  one_path_refusal h m n p root PathTooLong PathTooShort r s = absurd (omega (arith, r.1, s.1))
  one_path_refusal h m n p root PathTooLong RootMismatch r s = absurd (omega (arith, r.1, s.1))
  one_path_refusal h m n p root PathTooShort IndexOutOfRange r s = absurd (omega (arith, r.0, s))
  one_path_refusal h m n p root PathTooShort PathTooLong r s = absurd (omega (arith, r.1, s.1))
  one_path_refusal h m n p root PathTooShort PathTooShort r s = refl
  one_path_refusal h m n p root PathTooShort RootMismatch r s = absurd (omega (arith, r.1, s.1))
  one_path_refusal h m n p root RootMismatch IndexOutOfRange r s = absurd (omega (arith, r.0, s))
  one_path_refusal h m n p root RootMismatch PathTooLong r s = absurd (omega (arith, r.1, s.1))
  one_path_refusal h m n p root RootMismatch PathTooShort r s = absurd (omega (arith, r.1, s.1))
  one_path_refusal h m n p root RootMismatch RootMismatch r s = refl
  one_path_refusal h m n p root EmptyPath g r s = absurd r
  one_path_refusal h m n p root FirstMismatch g r s = absurd r
  one_path_refusal h m n p root SizesOutOfRange g r s = absurd r
  one_path_refusal h m n p root f EmptyPath r s = absurd s
  one_path_refusal h m n p root f FirstMismatch r s = absurd s
  one_path_refusal h m n p root f SizesOutOfRange r s = absurd s

  -- both roots of a proof belong to one pair
  not_first : (m n : ℕ) (x y : List ℕ) (p : List (List ℕ)) → RefusesConsistency H m n x y p FirstMismatch
      → RefusesConsistency H m n x y p RootMismatch → ⊥
  not_first m n x y p r s =
      let z : (r.2.0, r.2.1) ≡ (x, s.2.0) = same_some (r.2.0, r.2.1) (x, s.2.0) (sym r.2.2 ∙ s.2.1) in
      r.2.3 (ap (λ (v : List ℕ × List ℕ). v.0) z)

  pub one_proof_refusal : (m n : ℕ) (x y : List ℕ) (p : List (List ℕ)) (f g : ProofFault) → RefusesConsistency H m n x y p f
      → RefusesConsistency H m n x y p g → f ≡ g
  one_proof_refusal m n x y p SizesOutOfRange SizesOutOfRange r s = refl
  one_proof_refusal m n x y p SizesOutOfRange EmptyPath r s = absurd (r (s.0, s.1))
  one_proof_refusal m n x y p SizesOutOfRange PathTooLong r s = absurd (r (s.0, s.1))
  one_proof_refusal m n x y p SizesOutOfRange PathTooShort r s = absurd (r (s.0, s.1))
  one_proof_refusal m n x y p SizesOutOfRange FirstMismatch r s = absurd (r (s.0, s.1))
  one_proof_refusal m n x y p SizesOutOfRange RootMismatch r s = absurd (r (s.0, s.1))
  one_proof_refusal m n x y p EmptyPath SizesOutOfRange r s = absurd (s (r.0, r.1))
  one_proof_refusal m n x y p EmptyPath EmptyPath r s = refl
  one_proof_refusal m n x y p EmptyPath PathTooLong r s = absurd (omega (arith, ap length r.2, s.2))
  one_proof_refusal m n x y p EmptyPath PathTooShort r s = absurd (omega (arith, ap length r.2, s.2))
  one_proof_refusal m n x y p EmptyPath FirstMismatch r s = absurd (not_empty H m n x p (s.2.0, s.2.1) r.1 r.2 s.2.2)
  one_proof_refusal m n x y p EmptyPath RootMismatch r s = absurd (not_empty H m n x p (x, s.2.0) r.1 r.2 s.2.1)
  one_proof_refusal m n x y p PathTooLong SizesOutOfRange r s = absurd (s (r.0, r.1))
  one_proof_refusal m n x y p PathTooLong EmptyPath r s = absurd (omega (arith, ap length s.2, r.2))
  one_proof_refusal m n x y p PathTooLong PathTooLong r s = refl
  one_proof_refusal m n x y p PathTooLong PathTooShort r s = absurd (omega (arith, r.2, s.3))
  one_proof_refusal m n x y p PathTooLong FirstMismatch r s = absurd (omega (arith, r.2, both_defined_length H m n true x p (s.2.0, s.2.1) r.0 (omega (arith, r.1)) s.2.2))
  one_proof_refusal m n x y p PathTooLong RootMismatch r s = absurd (omega (arith, r.2, both_defined_length H m n true x p (x, s.2.0) r.0 (omega (arith, r.1)) s.2.1))
  one_proof_refusal m n x y p PathTooShort SizesOutOfRange r s = absurd (s (r.0, r.1))
  one_proof_refusal m n x y p PathTooShort EmptyPath r s = absurd (omega (arith, ap length s.2, r.2))
  one_proof_refusal m n x y p PathTooShort PathTooLong r s = absurd (omega (arith, r.3, s.2))
  one_proof_refusal m n x y p PathTooShort PathTooShort r s = refl
  one_proof_refusal m n x y p PathTooShort FirstMismatch r s = absurd (omega (arith, r.3, both_defined_length H m n true x p (s.2.0, s.2.1) r.0 (omega (arith, r.1)) s.2.2))
  one_proof_refusal m n x y p PathTooShort RootMismatch r s = absurd (omega (arith, r.3, both_defined_length H m n true x p (x, s.2.0) r.0 (omega (arith, r.1)) s.2.1))
  one_proof_refusal m n x y p FirstMismatch SizesOutOfRange r s = absurd (s (r.0, r.1))
  one_proof_refusal m n x y p FirstMismatch EmptyPath r s = absurd (not_empty H m n x p (r.2.0, r.2.1) r.1 s.2 r.2.2)
  one_proof_refusal m n x y p FirstMismatch PathTooLong r s = absurd (omega (arith, s.2, both_defined_length H m n true x p (r.2.0, r.2.1) r.0 (omega (arith, r.1)) r.2.2))
  one_proof_refusal m n x y p FirstMismatch PathTooShort r s = absurd (omega (arith, s.3, both_defined_length H m n true x p (r.2.0, r.2.1) r.0 (omega (arith, r.1)) r.2.2))
  one_proof_refusal m n x y p FirstMismatch FirstMismatch r s = refl
  one_proof_refusal m n x y p FirstMismatch RootMismatch r s = absurd (not_first m n x y p r s)
  one_proof_refusal m n x y p RootMismatch SizesOutOfRange r s = absurd (s (r.0, r.1))
  one_proof_refusal m n x y p RootMismatch EmptyPath r s = absurd (not_empty H m n x p (x, r.2.0) r.1 s.2 r.2.1)
  one_proof_refusal m n x y p RootMismatch PathTooLong r s = absurd (omega (arith, s.2, both_defined_length H m n true x p (x, r.2.0) r.0 (omega (arith, r.1)) r.2.1))
  one_proof_refusal m n x y p RootMismatch PathTooShort r s = absurd (omega (arith, s.3, both_defined_length H m n true x p (x, r.2.0) r.0 (omega (arith, r.1)) r.2.1))
  one_proof_refusal m n x y p RootMismatch FirstMismatch r s = absurd (not_first m n x y p s r)
  one_proof_refusal m n x y p RootMismatch RootMismatch r s = refl
  one_proof_refusal m n x y p IndexOutOfRange g r s = absurd r
  one_proof_refusal m n x y p f IndexOutOfRange r s = absurd s
