-- Roots are rebuilt exactly from a path whose length is that of PATH or SUBPROOF. So no accepted proof is refused.
use Rattle.std.proofs.Common.{refl, ◌≡◌, ℕ, ◌-◌, ◌<◌, ◌≤◌, sym, ◌∙◌, ap, arith, Bool, true, false, cond, List, [], ◌∷◌, length, reverse, Some, is_some, ⊎_elim}
use Rattle.std.proofs.lemmas.Bool.{cases_lt}
use Rattle.std.proofs.lemmas.List.{length-reverse}
use Rattle.ct_tree.proofs.Split.{split_lt}
use Rattle.ct_tree.proofs.Length.{path_length-one, path_length-left, path_length-right}
use Rattle.ct_tree.proofs.SubproofLength.{subproof_length-whole, subproof_length-left, subproof_length-right}
use Rattle.ct_tree.specs.Tree.{split, hash_node}
use Rattle.ct_tree.specs.Lengths.{path_length, subproof_length}
use Rattle.ct_verify.proofs.Options.{none_some, same_some, mapped, some_mapped}
use Rattle.ct_verify.proofs.Rebuild.{rebuild_left, rebuild_right, rebuild_past, rebuild_short, rebuild_leaf}
use Rattle.ct_verify.proofs.Both.{both-left, both-right, both-end, both-end_whole, both-whole}
use Rattle.ct_verify.specs.Climb.{pair_left, pair_right}
use Rattle.ct_verify.specs.Rebuild.{rebuild, rebuild_down, both_roots, both_down, same_pair}
use Rattle.ct_verify.specs.Verdict.{AcceptsInclusion, RefusesInclusion, AcceptsConsistency, RefusesConsistency}
use Rattle.ct_verify.specs.declared.fault.ProofFault.{ProofFault}
use Rattle.ct_verify.specs.declared.fault.ProofFault.TheVariants.{IndexOutOfRange, PathTooLong, PathTooShort, RootMismatch, EmptyPath, FirstMismatch}
use Rattle.ct_verify.specs.declared.fault.ProofFault.TheVariants.{SizesOutOfRange}

module _ (H : List ℕ → List ℕ) where
  -- ---- one root
  defined_down : (q : List (List ℕ)) (m n : ℕ) (h r : List ℕ) → m < n → rebuild_down H m n h q ≡ Some r → length q ≡ path_length m n
  defined_down [] m n h r l e =
      ⊎_elim
      (λ (more : 1 < n). absurd (none_some r (sym (rebuild_short H m n h more) ∙ e)))
      (λ (few : n ≤ 1). let one : n ≡ 1 = omega arith in let z : path_length m n ≡ 0 = ap (path_length m) one ∙ path_length-one m in omega arith)
      (cases_lt 1 n)
  defined_down (s ∷ q) m n h r l e =
      ⊎_elim
      (λ (more : 1 < n). ⊎_elim
      (λ (low : m < split n).
      let z = mapped (λ x. hash_node H x s) (rebuild_down H m (split n) h q) r (sym (rebuild_left H m n (split n) h s q more refl low) ∙ e) in
      let i : length q ≡ path_length m (split n) = defined_down q m (split n) h z.0 low z.1 in
      omega (arith, path_length-left m n more low))
      (λ (high : split n ≤ m).
      let z = mapped (λ x. hash_node H s x) (rebuild_down H (m - split n) (n - split n) h q) r (sym (rebuild_right H m n (split n) h s q more refl high) ∙ e) in
      let i : length q ≡ path_length (m - split n) (n - split n) = defined_down q (m - split n) (n - split n) h z.0 (omega (arith, split_lt n more)) z.1 in
      omega (arith, path_length-right m n more high))
      (cases_lt m (split n)))
      (λ (few : n ≤ 1). absurd (none_some r (sym (rebuild_past H m n h s q few) ∙ e)))
      (cases_lt 1 n)

  long_enough : (q : List (List ℕ)) (m n : ℕ) (h : List ℕ) → m < n → length q ≡ path_length m n → is_some (rebuild_down H m n h q) ≡ true
  long_enough [] m n h l e =
      ⊎_elim
      (λ (more : 1 < n). absurd (⊎_elim
      (λ (low : m < split n). omega (arith, path_length-left m n more low))
      (λ (high : split n ≤ m). omega (arith, path_length-right m n more high))
      (cases_lt m (split n))))
      (λ (few : n ≤ 1). ap is_some (rebuild_leaf H m n h few))
      (cases_lt 1 n)
  long_enough (s ∷ q) m n h l e =
      ⊎_elim
      (λ (more : 1 < n). ⊎_elim
      (λ (low : m < split n).
      ap is_some (rebuild_left H m n (split n) h s q more refl low)
      ∙ some_mapped (λ x. hash_node H x s) (rebuild_down H m (split n) h q) (long_enough q m (split n) h low (omega (arith, path_length-left m n more low))))
      (λ (high : split n ≤ m).
      ap is_some (rebuild_right H m n (split n) h s q more refl high)
      ∙ some_mapped (λ x. hash_node H s x) (rebuild_down H (m - split n) (n - split n) h q)
      (long_enough q (m - split n) (n - split n) h (omega (arith, split_lt n more)) (omega (arith, path_length-right m n more high))))
      (cases_lt m (split n)))
      (λ (few : n ≤ 1).
      let one : n ≡ 1 = omega arith in
      let z : path_length m n ≡ 0 = ap (path_length m) one ∙ path_length-one m in
      absurd (omega arith))
      (cases_lt 1 n)

  pub defined_length : (m n : ℕ) (h r : List ℕ) (p : List (List ℕ)) → m < n → rebuild H m n h p ≡ Some r → length p ≡ path_length m n
  unfolding rebuild
  defined_length m n h r p l e = sym (length-reverse p) ∙ defined_down (reverse p) m n h r l e

  pub path_long_enough : (m n : ℕ) (h : List ℕ) (p : List (List ℕ)) → m < n → length p ≡ path_length m n → is_some (rebuild H m n h p) ≡ true
  unfolding rebuild
  path_long_enough m n h p l e = long_enough (reverse p) m n h l (length-reverse p ∙ e)

  pub accepted_not_refused : (h : List ℕ) (m n : ℕ) (p : List (List ℕ)) (root : List ℕ) (fault : ProofFault) → AcceptsInclusion H h m n p root
      → RefusesInclusion H h m n p root fault → ⊥
  accepted_not_refused h m n p root IndexOutOfRange a r = omega (arith, a.0)
  accepted_not_refused h m n p root PathTooLong a r = omega (arith, r.1, defined_length m n h root p a.0 a.1)
  accepted_not_refused h m n p root PathTooShort a r = omega (arith, r.1, defined_length m n h root p a.0 a.1)
  accepted_not_refused h m n p root RootMismatch a r = r.2 a.1
  accepted_not_refused h m n p root EmptyPath a r = r
  accepted_not_refused h m n p root FirstMismatch a r = r
  accepted_not_refused h m n p root SizesOutOfRange a r = r

  -- ---- two roots
  same_length : (c : List ℕ) (q : List (List ℕ)) (z : List ℕ × List ℕ) → same_pair c q ≡ Some z → length q ≡ 0
  same_length c [] z e = refl
  same_length c (s ∷ q) z e = absurd (none_some z e)

  whole_length : (q : List (List ℕ)) (m n : ℕ) (b : Bool) (r : List ℕ) (z : List ℕ × List ℕ) → n ≤ m → both_down H m n b r q ≡ Some z → length q ≡ cond b 0 1
  whole_length [] m n true r z w e = refl
  whole_length [] m n false r z w e = absurd (none_some z (sym (both-end_whole H m n false r w) ∙ e))
  whole_length (s ∷ q) m n true r z w e = absurd (none_some z (sym (both-whole H m n true r s q w) ∙ e))
  whole_length (s ∷ q) m n false r z w e =
      let i : length q ≡ 0 = same_length s q z (sym (both-whole H m n false r s q w) ∙ e) in
      omega arith

  both_defined_down : (q : List (List ℕ)) (m n : ℕ) (b : Bool) (r : List ℕ) (z : List ℕ × List ℕ) → 0 < m → m ≤ n → both_down H m n b r q ≡ Some z
      → length q ≡ subproof_length m n b
  both_defined_down [] m n b r z p w e =
      ⊎_elim
      (λ (l : m < n). absurd (none_some z (sym (both-end H m n b r l) ∙ e)))
      (λ (g : n ≤ m). whole_length [] m n b r z g e ∙ sym (subproof_length-whole m n b p (omega arith)))
      (cases_lt m n)
  both_defined_down (s ∷ q) m n b r z p w e =
      ⊎_elim
      (λ (l : m < n). ⊎_elim
      (λ (high : split n < m).
      let u = mapped (λ z. pair_right H z s) (both_down H (m - split n) (n - split n) false r q) z (sym (both-right H m n (split n) b r s q l refl high) ∙ e) in
      let i : length q ≡ subproof_length (m - split n) (n - split n) false =
      both_defined_down q (m - split n) (n - split n) false r u.0 (omega arith) (omega arith) u.1 in
      omega (arith, subproof_length-right m n b p l high))
      (λ (low : m ≤ split n).
      let u = mapped (λ z. pair_left H z s) (both_down H m (split n) b r q) z (sym (both-left H m n (split n) b r s q l refl low) ∙ e) in
      let i : length q ≡ subproof_length m (split n) b = both_defined_down q m (split n) b r u.0 p low u.1 in
      omega (arith, subproof_length-left m n b p l low))
      (cases_lt (split n) m))
      (λ (g : n ≤ m). whole_length (s ∷ q) m n b r z g e ∙ sym (subproof_length-whole m n b p (omega arith)))
      (cases_lt m n)

  same_enough : (c : List ℕ) (q : List (List ℕ)) → length q ≡ 0 → is_some (same_pair c q) ≡ true
  same_enough c [] e = refl
  same_enough c (s ∷ q) e = absurd (omega arith)

  whole_enough : (q : List (List ℕ)) (m n : ℕ) (b : Bool) (r : List ℕ) → n ≤ m → length q ≡ cond b 0 1 → is_some (both_down H m n b r q) ≡ true
  whole_enough [] m n true r w e = ap is_some (both-end_whole H m n true r w)
  whole_enough [] m n false r w e = absurd (omega arith)
  whole_enough (s ∷ q) m n true r w e = absurd (omega arith)
  whole_enough (s ∷ q) m n false r w e = ap is_some (both-whole H m n false r s q w) ∙ same_enough s q (omega arith)

  both_long_enough : (q : List (List ℕ)) (m n : ℕ) (b : Bool) (r : List ℕ) → 0 < m → m ≤ n → length q ≡ subproof_length m n b
      → is_some (both_down H m n b r q) ≡ true
  both_long_enough [] m n b r p w e =
      ⊎_elim
      (λ (l : m < n). absurd (⊎_elim
      (λ (high : split n < m). omega (arith, subproof_length-right m n b p l high))
      (λ (low : m ≤ split n). omega (arith, subproof_length-left m n b p l low))
      (cases_lt (split n) m)))
      (λ (g : n ≤ m). whole_enough [] m n b r g (e ∙ subproof_length-whole m n b p (omega arith)))
      (cases_lt m n)
  both_long_enough (s ∷ q) m n b r p w e =
      ⊎_elim
      (λ (l : m < n). ⊎_elim
      (λ (high : split n < m).
      ap is_some (both-right H m n (split n) b r s q l refl high)
      ∙ some_mapped (λ z. pair_right H z s) (both_down H (m - split n) (n - split n) false r q)
      (both_long_enough q (m - split n) (n - split n) false r (omega arith) (omega arith) (omega (arith, subproof_length-right m n b p l high))))
      (λ (low : m ≤ split n).
      ap is_some (both-left H m n (split n) b r s q l refl low)
      ∙ some_mapped (λ z. pair_left H z s) (both_down H m (split n) b r q)
      (both_long_enough q m (split n) b r p low (omega (arith, subproof_length-left m n b p l low))))
      (cases_lt (split n) m))
      (λ (g : n ≤ m). whole_enough (s ∷ q) m n b r g (e ∙ subproof_length-whole m n b p (omega arith)))
      (cases_lt m n)

  pub both_defined_length : (m n : ℕ) (b : Bool) (r : List ℕ) (p : List (List ℕ)) (z : List ℕ × List ℕ) → 0 < m → m ≤ n → both_roots H m n b r p ≡ Some z
      → length p ≡ subproof_length m n b
  unfolding both_roots
  both_defined_length m n b r p z s w e = sym (length-reverse p) ∙ both_defined_down (reverse p) m n b r z s w e

  pub proof_long_enough : (m n : ℕ) (b : Bool) (r : List ℕ) (p : List (List ℕ)) → 0 < m → m ≤ n → length p ≡ subproof_length m n b
      → is_some (both_roots H m n b r p) ≡ true
  unfolding both_roots
  proof_long_enough m n b r p z w e = both_long_enough (reverse p) m n b r z w (length-reverse p ∙ e)

  pub not_empty : (m n : ℕ) (r : List ℕ) (p : List (List ℕ)) (z : List ℕ × List ℕ) → m < n → p ≡ [] → both_roots H m n true r p ≡ Some z → ⊥
  unfolding both_roots
  not_empty m n r p z l f e = none_some z (sym (both-end H m n true r l) ∙ sym (ap (both_roots H m n true r) f) ∙ e)

  pub accepted_proof_not_refused : (m n : ℕ) (x y : List ℕ) (p : List (List ℕ)) (fault : ProofFault) → AcceptsConsistency H m n x y p
      → RefusesConsistency H m n x y p fault → ⊥
  accepted_proof_not_refused m n x y p SizesOutOfRange a r = r (a.0, a.1)
  accepted_proof_not_refused m n x y p EmptyPath a r = not_empty m n x p (x, y) a.1 r.2 a.2
  accepted_proof_not_refused m n x y p PathTooLong a r = omega (arith, r.2, both_defined_length m n true x p (x, y) a.0 (omega (arith, a.1)) a.2)
  accepted_proof_not_refused m n x y p PathTooShort a r = omega (arith, r.3, both_defined_length m n true x p (x, y) a.0 (omega (arith, a.1)) a.2)
  accepted_proof_not_refused m n x y p FirstMismatch a r =
      let z : (r.2.0, r.2.1) ≡ (x, y) = same_some (r.2.0, r.2.1) (x, y) (sym r.2.2 ∙ a.2) in
      r.2.3 (ap (λ (v : List ℕ × List ℕ). v.0) z)
  accepted_proof_not_refused m n x y p RootMismatch a r =
      let z : (x, r.2.0) ≡ (x, y) = same_some (x, r.2.0) (x, y) (sym r.2.1 ∙ a.2) in
      r.2.2 (ap (λ (v : List ℕ × List ℕ). v.1) z)
  accepted_proof_not_refused m n x y p IndexOutOfRange a r = r
