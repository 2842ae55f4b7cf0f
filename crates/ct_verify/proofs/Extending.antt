-- The evidence for a consistency proof.
use Rattle.std.proofs.Common.{◌≡◌, ℕ, refl, subst, sym, ◌∙◌, ap, true, false, eqb, List, length, take, map, Some, Ok, Err, Result, MatchResult}
use Rattle.std.specs.Prelude.{IsErr, IsErrAnd}
use Rattle.std.specs.Bool.{Decides}
use Rattle.std.specs.Cmp.Lexicographic.{pointwise, pointwise_decides}
use Rattle.std.specs.Cmp.Derive.Mapped.{pointwise-map}
use Rattle.std.proofs.lemmas.Bool.{both_ways}
use Rattle.std.proofs.lemmas.Slice.Eq.{bytes_eq-Decides}
use Rattle.std.proofs.lemmas.List.{length-map, take-map}
use Rattle.ct_tree.specs.Tree.{mth_of_leaves}
use Rattle.ct_verify.proofs.Clashes.{along_collides}
use Rattle.ct_verify.proofs.Defined.{accepted_proof_not_refused}
use Rattle.ct_verify.specs.Clash.{ClashAlong}
use Rattle.ct_verify.specs.Strings.{IsCollision}
use Rattle.ct_verify.specs.Verdict.{AcceptsConsistency, RefusesConsistency}
use Rattle.ct_verify.specs.ConsistencyEvidence.{IsAcceptedFor, IsBeginning, ConsistencyEvidence, ConsistencyFault}
use Rattle.ct_verify.specs.declared.fault.ProofFault.{ProofFault}
use Rattle.ct_verify.specs.declared.evidence.Evidence.{Evidence}
use Rattle.ct_verify.specs.declared.evidence.Evidence.TheVariants.{Holds, Collision}
use Rattle.ct_verify.specs.declared.evidence.EvidenceFault.{EvidenceFault}
use Rattle.ct_verify.specs.declared.evidence.EvidenceFault.TheVariants.{ProofRefused, Memory}

-- an error that `?` passes on
pub answered : {T F : Type 0} (r : Result T F) (P : T → Type 0) (Q : F → Type 0) (e : F) → IsErr r → IsErrAnd r (λ x. x ≡ e) → Q e → MatchResult r P Q
answered (Ok x) P Q e i j q = absurd (both_ways false refl i)
answered (Err x) P Q e i j q = subst Q (sym j) q

-- a list of byte lists compared with the beginning of another
pub begins_decides : {V : Type 0} (f : V → List ℕ) (xs ys : List V)
    → Decides (pointwise (λ x y. pointwise eqb (f x) (f y)) xs (take (length xs) ys)) (IsBeginning (map f xs) (map f ys))
begins_decides f xs ys =
    let d : Decides (pointwise (pointwise eqb) (map f xs) (map f (take (length xs) ys))) (map f xs ≡ map f (take (length xs) ys)) =
    pointwise_decides bytes_eq-Decides (map f xs) (map f (take (length xs) ys)) in
    let s : map f (take (length xs) ys) ≡ take (length (map f xs)) (map f ys) = sym (take-map f (length xs) ys)
    ∙ ap (λ n. take n (map f ys)) (sym (length-map xs f)) in
    let p = pointwise-map f (pointwise eqb) xs (take (length xs) ys) in
    (λ t. d.0 (p ∙ t) ∙ s, λ b. sym p ∙ d.1 (b ∙ sym s))

module _ (H : List ℕ → List ℕ) {V : Type 0} (f : V → List ℕ) where
  -- the verifier's verdict carried over to the lists
  pub accepted_for : (xs ys : List V) (x y : List ℕ) (p : List (List ℕ)) → x ≡ mth_of_leaves H (map f xs) → y ≡ mth_of_leaves H (map f ys)
      → AcceptsConsistency H (length xs) (length ys) x y p → IsAcceptedFor H (map f xs) (map f ys) p
  accepted_for xs ys x y p ex ey a = rw (length-map xs f, length-map ys f, sym ex, sym ey) a

  pub refused_for : (xs ys : List V) (x y : List ℕ) (p : List (List ℕ)) (v : ProofFault) → x ≡ mth_of_leaves H (map f xs) → y ≡ mth_of_leaves H (map f ys)
      → RefusesConsistency H (length xs) (length ys) x y p v → ConsistencyFault H (map f xs) (map f ys) p (ProofRefused v)
  refused_for xs ys x y p v ex ey r = rw (length-map xs f, length-map ys f, sym ex, sym ey) r

module _ (H : List ℕ → List ℕ) where
  -- if the old list begins the new one, an accepted proof always has the result Holds
  pub extension_holds : {A : Type 0} → (E D p : List (List ℕ)) (result : Result (Evidence A) EvidenceFault)
      → MatchResult result (ConsistencyEvidence H E D p) (ConsistencyFault H E D p) → IsAcceptedFor H E D p → IsBeginning E D → result ≡ Ok Holds
  extension_holds E D p (Ok Holds) e a b = refl
  extension_holds E D p (Ok (Collision x y)) e a b = absurd (e.1 b)
  extension_holds E D p (Err (ProofRefused v)) e a b =
      absurd (accepted_proof_not_refused H (length E) (length D) (mth_of_leaves H E) (mth_of_leaves H D) p v a e)
  extension_holds E D p (Err Memory) e a b = absurd (e.1 b)

  -- the first clash along an accepted proof is the evidence
  pub clash_found : {A : Type 0} → (E D p : List (List ℕ)) (z : List ℕ × List ℕ) (e : Evidence A) → IsAcceptedFor H E D p → (¬ IsBeginning E D)
      → ClashAlong H true (mth_of_leaves H E) E D p (Some z) → IsCollision z e → ConsistencyEvidence H E D p e
  clash_found E D p z Holds a n w i = absurd i
  clash_found E D p z (Collision x y) a n w i =
      let c = along_collides H true (mth_of_leaves H E) E D p (Some z) z w refl in
      (a, n, rw (i.0, i.1) c, rw (i.0, i.1) w)
