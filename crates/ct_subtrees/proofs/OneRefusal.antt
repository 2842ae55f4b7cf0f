-- No accepted proof is refused, and no proof has two different refusals.
use Rattle.std.proofs.Common.{refl, ◌≡◌, ℕ, ◌-◌, sym, ◌∙◌, ap, arith, List, length, true}
use Rattle.ct_verify.proofs.Defined.{defined_length}
use Rattle.ct_verify.proofs.Options.{same_some}
use Rattle.ct_subtrees.specs.Subtrees.{subtree_length}
use Rattle.ct_subtrees.specs.Verdict.{AcceptsSubtree, RefusesSubtree, EvaluatesTo, RefusesEvaluation}
use Rattle.ct_subtrees.specs.declared.fault.SubtreeFault.{SubtreeFault}
use Rattle.ct_subtrees.specs.declared.fault.SubtreeFault.TheVariants.{NotASubtree, BeyondTree, IndexOutOfRange, PathTooLong, PathTooShort}
use Rattle.ct_subtrees.specs.declared.fault.SubtreeFault.TheVariants.{FirstMismatch, RootMismatch}
use Rattle.ct_subtrees.proofs.Defined.{rebuilt_length}

module _ (H : List ℕ → List ℕ) where
  pub accepted_not_refused : (s e n : ℕ) (x y : List ℕ) (p : List (List ℕ)) (fault : SubtreeFault) → AcceptsSubtree H s e n x y p
      → RefusesSubtree H s e n x y p fault → ⊥
  accepted_not_refused s e n x y p NotASubtree a r = r a.0.0
  accepted_not_refused s e n x y p BeyondTree a r = omega (arith, a.0.1, r.1)
  accepted_not_refused s e n x y p PathTooLong a r = omega (arith, r.1, rebuilt_length H s e n true x p (x, y) a.0.0.0 a.0.1 a.1)
  accepted_not_refused s e n x y p PathTooShort a r = omega (arith, r.1, rebuilt_length H s e n true x p (x, y) a.0.0.0 a.0.1 a.1)
  accepted_not_refused s e n x y p FirstMismatch a r =
      let z : (r.1.0, r.1.1) ≡ (x, y) = same_some (r.1.0, r.1.1) (x, y) (sym r.1.2 ∙ a.1) in
      r.1.3 (ap (λ (v : List ℕ × List ℕ). v.0) z)
  accepted_not_refused s e n x y p RootMismatch a r =
      let z : (x, r.1.0) ≡ (x, y) = same_some (x, r.1.0) (x, y) (sym r.1.1 ∙ a.1) in
      r.1.2 (ap (λ (v : List ℕ × List ℕ). v.1) z)
  accepted_not_refused s e n x y p IndexOutOfRange a r = r

  pub evaluated_not_refused : (i s e : ℕ) (h : List ℕ) (p : List (List ℕ)) (x : List ℕ) (fault : SubtreeFault) → EvaluatesTo H i s e h p x
      → RefusesEvaluation i s e p fault → ⊥
  evaluated_not_refused i s e h p x NotASubtree a r = r a.0.0
  evaluated_not_refused i s e h p x IndexOutOfRange a r = r.1 (a.0.1, a.0.2)
  evaluated_not_refused i s e h p x PathTooLong a r =
      omega (arith, r.1, defined_length H (i - s) (e - s) h x p (omega (arith, a.0.1, a.0.2)) a.1)
  evaluated_not_refused i s e h p x PathTooShort a r =
      omega (arith, r.1, defined_length H (i - s) (e - s) h x p (omega (arith, a.0.1, a.0.2)) a.1)
  evaluated_not_refused i s e h p x BeyondTree a r = r
  evaluated_not_refused i s e h p x FirstMismatch a r = r
  evaluated_not_refused i s e h p x RootMismatch a r = r

  -- both hashes of a proof belong to one pair
  not_first : (s e n : ℕ) (x y : List ℕ) (p : List (List ℕ)) → RefusesSubtree H s e n x y p FirstMismatch → RefusesSubtree H s e n x y p RootMismatch → ⊥
  not_first s e n x y p r t =
      let z : (r.1.0, r.1.1) ≡ (x, t.1.0) = same_some (r.1.0, r.1.1) (x, t.1.0) (sym r.1.2 ∙ t.1.1) in
      r.1.3 (ap (λ (v : List ℕ × List ℕ). v.0) z)

  -- a proof that yields two hashes has the right length
  first_length : (s e n : ℕ) (x y : List ℕ) (p : List (List ℕ)) → RefusesSubtree H s e n x y p FirstMismatch → length p ≡ subtree_length s e n true
  first_length s e n x y p r = rebuilt_length H s e n true x p (r.1.0, r.1.1) r.0.0.0 r.0.1 r.1.2

  root_length : (s e n : ℕ) (x y : List ℕ) (p : List (List ℕ)) → RefusesSubtree H s e n x y p RootMismatch → length p ≡ subtree_length s e n true
  root_length s e n x y p r = rebuilt_length H s e n true x p (x, r.1.0) r.0.0.0 r.0.1 r.1.1

  pub one_proof_refusal : (s e n : ℕ) (x y : List ℕ) (p : List (List ℕ)) (f g : SubtreeFault) → RefusesSubtree H s e n x y p f
      → RefusesSubtree H s e n x y p g → f ≡ g
  one_proof_refusal s e n x y p NotASubtree NotASubtree r t = refl
  one_proof_refusal s e n x y p NotASubtree BeyondTree r t = absurd (r t.0)
  one_proof_refusal s e n x y p NotASubtree PathTooLong r t = absurd (r t.0.0)
  one_proof_refusal s e n x y p NotASubtree PathTooShort r t = absurd (r t.0.0)
  one_proof_refusal s e n x y p NotASubtree FirstMismatch r t = absurd (r t.0.0)
  one_proof_refusal s e n x y p NotASubtree RootMismatch r t = absurd (r t.0.0)
  one_proof_refusal s e n x y p BeyondTree NotASubtree r t = absurd (t r.0)
  one_proof_refusal s e n x y p BeyondTree BeyondTree r t = refl
  one_proof_refusal s e n x y p BeyondTree PathTooLong r t = absurd (omega (arith, r.1, t.0.1))
  one_proof_refusal s e n x y p BeyondTree PathTooShort r t = absurd (omega (arith, r.1, t.0.1))
  one_proof_refusal s e n x y p BeyondTree FirstMismatch r t = absurd (omega (arith, r.1, t.0.1))
  one_proof_refusal s e n x y p BeyondTree RootMismatch r t = absurd (omega (arith, r.1, t.0.1))
  one_proof_refusal s e n x y p PathTooLong NotASubtree r t = absurd (t r.0.0)
  one_proof_refusal s e n x y p PathTooLong BeyondTree r t = absurd (omega (arith, t.1, r.0.1))
  one_proof_refusal s e n x y p PathTooLong PathTooLong r t = refl
  one_proof_refusal s e n x y p PathTooLong PathTooShort r t = absurd (omega (arith, r.1, t.1))
  one_proof_refusal s e n x y p PathTooLong FirstMismatch r t = absurd (omega (arith, r.1, first_length s e n x y p t))
  one_proof_refusal s e n x y p PathTooLong RootMismatch r t = absurd (omega (arith, r.1, root_length s e n x y p t))
  one_proof_refusal s e n x y p PathTooShort NotASubtree r t = absurd (t r.0.0)
  one_proof_refusal s e n x y p PathTooShort BeyondTree r t = absurd (omega (arith, t.1, r.0.1))
  one_proof_refusal s e n x y p PathTooShort PathTooLong r t = absurd (omega (arith, r.1, t.1))
  one_proof_refusal s e n x y p PathTooShort PathTooShort r t = refl
  one_proof_refusal s e n x y p PathTooShort FirstMismatch r t = absurd (omega (arith, r.1, first_length s e n x y p t))
  one_proof_refusal s e n x y p PathTooShort RootMismatch r t = absurd (omega (arith, r.1, root_length s e n x y p t))
  one_proof_refusal s e n x y p FirstMismatch NotASubtree r t = absurd (t r.0.0)
  one_proof_refusal s e n x y p FirstMismatch BeyondTree r t = absurd (omega (arith, t.1, r.0.1))
  one_proof_refusal s e n x y p FirstMismatch PathTooLong r t = absurd (omega (arith, first_length s e n x y p r, t.1))
  one_proof_refusal s e n x y p FirstMismatch PathTooShort r t = absurd (omega (arith, first_length s e n x y p r, t.1))
  one_proof_refusal s e n x y p FirstMismatch FirstMismatch r t = refl
  one_proof_refusal s e n x y p FirstMismatch RootMismatch r t = absurd (not_first s e n x y p r t)
  one_proof_refusal s e n x y p RootMismatch NotASubtree r t = absurd (t r.0.0)
  one_proof_refusal s e n x y p RootMismatch BeyondTree r t = absurd (omega (arith, t.1, r.0.1))
  one_proof_refusal s e n x y p RootMismatch PathTooLong r t = absurd (omega (arith, root_length s e n x y p r, t.1))
  one_proof_refusal s e n x y p RootMismatch PathTooShort r t = absurd (omega (arith, root_length s e n x y p r, t.1))
  one_proof_refusal s e n x y p RootMismatch FirstMismatch r t = absurd (not_first s e n x y p t r)
  one_proof_refusal s e n x y p RootMismatch RootMismatch r t = refl
  one_proof_refusal s e n x y p IndexOutOfRange g r t = absurd r
  one_proof_refusal s e n x y p f IndexOutOfRange r t = absurd t

pub one_path_refusal : (i s e : ℕ) (p : List (List ℕ)) (f g : SubtreeFault) → RefusesEvaluation i s e p f → RefusesEvaluation i s e p g → f ≡ g
one_path_refusal i s e p NotASubtree NotASubtree r t = refl
one_path_refusal i s e p NotASubtree IndexOutOfRange r t = absurd (r t.0)
one_path_refusal i s e p NotASubtree PathTooLong r t = absurd (r t.0.0)
one_path_refusal i s e p NotASubtree PathTooShort r t = absurd (r t.0.0)
one_path_refusal i s e p IndexOutOfRange NotASubtree r t = absurd (t r.0)
one_path_refusal i s e p IndexOutOfRange IndexOutOfRange r t = refl
one_path_refusal i s e p IndexOutOfRange PathTooLong r t = absurd (r.1 (t.0.1, t.0.2))
one_path_refusal i s e p IndexOutOfRange PathTooShort r t = absurd (r.1 (t.0.1, t.0.2))
one_path_refusal i s e p PathTooLong NotASubtree r t = absurd (t r.0.0)
one_path_refusal i s e p PathTooLong IndexOutOfRange r t = absurd (t.1 (r.0.1, r.0.2))
one_path_refusal i s e p PathTooLong PathTooLong r t = refl
one_path_refusal i s e p PathTooLong PathTooShort r t = absurd (omega (arith, r.1, t.1))
one_path_refusal i s e p PathTooShort NotASubtree r t = absurd (t r.0.0)
one_path_refusal i s e p PathTooShort IndexOutOfRange r t = absurd (t.1 (r.0.1, r.0.2))
one_path_refusal i s e p PathTooShort PathTooLong r t = absurd (omega (arith, r.1, t.1))
one_path_refusal i s e p PathTooShort PathTooShort r t = refl
one_path_refusal i s e p BeyondTree g r t = absurd r
one_path_refusal i s e p FirstMismatch g r t = absurd r
one_path_refusal i s e p RootMismatch g r t = absurd r
one_path_refusal i s e p f BeyondTree r t = absurd t
one_path_refusal i s e p f FirstMismatch r t = absurd t
one_path_refusal i s e p f RootMismatch r t = absurd t
