-- Two hashes are rebuilt only from a proof with the length of SUBTREE_SUBPROOF. So no accepted proof is refused.
use Rattle.std.proofs.Common.{◌≡◌, ℕ, suc, ◌-◌, ◌<◌, ◌≤◌, refl, sym, ◌∙◌, ap, arith, Bool, true, false, cond, List, [], ◌∷◌, length, reverse, Some, is_some}
use Rattle.std.proofs.lemmas.List.{length-reverse}
use Rattle.ct_tree.specs.Tree.{split}
use Rattle.ct_verify.proofs.Options.{none_some, mapped, some_mapped}
use Rattle.ct_verify.specs.Climb.{pair_left, pair_right}
use Rattle.ct_verify.specs.Rebuild.{same_pair}
use Rattle.ct_subtrees.specs.Subtrees.{is_whole, subtree_length}
use Rattle.ct_subtrees.specs.Roots.{subtree_down, subtree_roots}
use Rattle.ct_subtrees.proofs.Whole.{Part, all, first_part, second_part, both_parts, part, whole_is}
use Rattle.ct_subtrees.proofs.Length.{length-whole, length-left, length-right, length-both}
use Rattle.ct_subtrees.proofs.Down.{pair_beyond, down-end, down-end_whole, down-whole, down-left, down-right, down-both}

same_length : (c : List ℕ) (q : List (List ℕ)) (z : List ℕ × List ℕ) → same_pair c q ≡ Some z → length q ≡ 0
same_length c [] z e = refl
same_length c (s ∷ q) z e = absurd (none_some z e)

same_some_pair : (c : List ℕ) (q : List (List ℕ)) → length q ≡ 0 → is_some (same_pair c q) ≡ true
same_some_pair c [] e = refl
same_some_pair c (s ∷ q) e = absurd (omega arith)

module _ (H : List ℕ → List ℕ) where
  abbrev Sized : List (List ℕ) → Type 0
  Sized q =
      (s e n : ℕ) (b : Bool) (r : List ℕ) (z : List ℕ × List ℕ) → s < e → e ≤ n → subtree_down H s e n b r q ≡ Some z
      → length q ≡ subtree_length s e n b

  whole_sized : (q : List (List ℕ)) (s e n : ℕ) (b : Bool) (r : List ℕ) (z : List ℕ × List ℕ) → is_whole s e n ≡ true
      → subtree_down H s e n b r q ≡ Some z → length q ≡ cond b 0 1
  whole_sized [] s e n true r z w f = refl
  whole_sized [] s e n false r z w f = absurd (none_some z (sym (down-end_whole H s e n false r w) ∙ f))
  whole_sized (c ∷ q) s e n true r z w f = absurd (none_some z (sym (down-whole H s e n true r c q w) ∙ f))
  whole_sized (c ∷ q) s e n false r z w f =
      let i : length q ≡ 0 = same_length c q z (sym (down-whole H s e n false r c q w) ∙ f) in
      omega arith

  end_sized : (s e n : ℕ) (b : Bool) (r : List ℕ) (z : List ℕ × List ℕ) → s < e → e ≤ n → Part s e n
      → subtree_down H s e n b r [] ≡ Some z → length {A = List ℕ} [] ≡ subtree_length s e n b
  end_sized s e n b r z l i (all y f) g = whole_sized [] s e n b r z (whole_is s e n y (omega arith)) g ∙ sym (length-whole s e n b l y f)
  end_sized s e n b r z l i (first_part m w low) g = absurd (none_some z (sym (down-end H s e n b r w) ∙ g))
  end_sized s e n b r z l i (second_part m w high) g = absurd (none_some z (sym (down-end H s e n b r w) ∙ g))
  end_sized s e n b r z l i (both_parts m w before over) g = absurd (none_some z (sym (down-end H s e n b r w) ∙ g))

  more_sized : (c : List ℕ) (q : List (List ℕ)) → Sized q → (s e n : ℕ) (b : Bool) (r : List ℕ) (z : List ℕ × List ℕ) → s < e → e ≤ n
      → Part s e n → subtree_down H s e n b r (c ∷ q) ≡ Some z → length (c ∷ q) ≡ subtree_length s e n b
  more_sized c q ih s e n b r z l i (all y f) g =
      whole_sized (c ∷ q) s e n b r z (whole_is s e n y (omega arith)) g ∙ sym (length-whole s e n b l y f)
  more_sized c q ih s e n b r z l i (first_part m w low) g =
      let u = mapped (λ v. pair_left H v c) (subtree_down H s e (split n) b r q) z (sym (down-left H s e n (split n) b r c q w refl low) ∙ g) in
      ap suc (ih s e (split n) b r u.0 l low u.1) ∙ sym (length-left s e n b l i m w low)
  more_sized c q ih s e n b r z l i (second_part m w high) g =
      let k = split n in
      let u = mapped (λ v. pair_beyond H v c) (subtree_down H (s - k) (e - k) (n - k) b r q) z (sym (down-right H s e n k b r c q w refl high l) ∙ g) in
      ap suc (ih (s - k) (e - k) (n - k) b r u.0 (omega arith) (omega arith) u.1) ∙ sym (length-right s e n b l i m w high)
  more_sized c q ih s e n b r z l i (both_parts m w before over) g =
      let k = split n in
      let u = mapped (λ v. pair_right H v c) (subtree_down H 0 (e - k) (n - k) false r q) z (sym (down-both H s e n k b r c q w refl before over) ∙ g) in
      ap suc (ih 0 (e - k) (n - k) false r u.0 (omega arith) (omega arith) u.1) ∙ sym (length-both s e n b l i m w before over)

  sized : (q : List (List ℕ)) → Sized q
  sized [] s e n b r z l i g = end_sized s e n b r z l i (part s e n l i) g
  sized (c ∷ q) s e n b r z l i g = more_sized c q (sized q) s e n b r z l i (part s e n l i) g

  pub rebuilt_length : (s e n : ℕ) (b : Bool) (r : List ℕ) (p : List (List ℕ)) (z : List ℕ × List ℕ) → s < e → e ≤ n
      → subtree_roots H s e n b r p ≡ Some z → length p ≡ subtree_length s e n b
  unfolding subtree_roots
  rebuilt_length s e n b r p z l i g = sym (length-reverse p) ∙ sized (reverse p) s e n b r z l i g

  -- ---- the other way round
  abbrev Filled : List (List ℕ) → Type 0
  Filled q =
      (s e n : ℕ) (b : Bool) (r : List ℕ) → s < e → e ≤ n → length q ≡ subtree_length s e n b → is_some (subtree_down H s e n b r q) ≡ true

  whole_filled : (q : List (List ℕ)) (s e n : ℕ) (b : Bool) (r : List ℕ) → is_whole s e n ≡ true → length q ≡ cond b 0 1
      → is_some (subtree_down H s e n b r q) ≡ true
  whole_filled [] s e n true r w f = ap is_some (down-end_whole H s e n true r w)
  whole_filled [] s e n false r w f = absurd (omega arith)
  whole_filled (c ∷ q) s e n true r w f = absurd (omega arith)
  whole_filled (c ∷ q) s e n false r w f = ap is_some (down-whole H s e n false r c q w) ∙ same_some_pair c q (omega arith)

  end_filled : (s e n : ℕ) (b : Bool) (r : List ℕ) → s < e → e ≤ n → Part s e n → length {A = List ℕ} [] ≡ subtree_length s e n b
      → is_some (subtree_down H s e n b r []) ≡ true
  end_filled s e n b r l i (all y f) g = whole_filled [] s e n b r (whole_is s e n y (omega arith)) (g ∙ length-whole s e n b l y f)
  end_filled s e n b r l i (first_part m w low) g = absurd (omega (arith, g, length-left s e n b l i m w low))
  end_filled s e n b r l i (second_part m w high) g = absurd (omega (arith, g, length-right s e n b l i m w high))
  end_filled s e n b r l i (both_parts m w before over) g = absurd (omega (arith, g, length-both s e n b l i m w before over))

  more_filled : (c : List ℕ) (q : List (List ℕ)) → Filled q → (s e n : ℕ) (b : Bool) (r : List ℕ) → s < e → e ≤ n → Part s e n
      → length (c ∷ q) ≡ subtree_length s e n b → is_some (subtree_down H s e n b r (c ∷ q)) ≡ true
  more_filled c q ih s e n b r l i (all y f) g =
      whole_filled (c ∷ q) s e n b r (whole_is s e n y (omega arith)) (g ∙ length-whole s e n b l y f)
  more_filled c q ih s e n b r l i (first_part m w low) g =
      let h : length q ≡ subtree_length s e (split n) b = omega (arith, g, length-left s e n b l i m w low) in
      ap is_some (down-left H s e n (split n) b r c q w refl low)
      ∙ some_mapped (λ v. pair_left H v c) (subtree_down H s e (split n) b r q) (ih s e (split n) b r l low h)
  more_filled c q ih s e n b r l i (second_part m w high) g =
      let k = split n in
      let h : length q ≡ subtree_length (s - k) (e - k) (n - k) b = omega (arith, g, length-right s e n b l i m w high) in
      ap is_some (down-right H s e n k b r c q w refl high l)
      ∙ some_mapped (λ v. pair_beyond H v c) (subtree_down H (s - k) (e - k) (n - k) b r q) (ih (s - k) (e - k) (n - k) b r (omega arith) (omega arith) h)
  more_filled c q ih s e n b r l i (both_parts m w before over) g =
      let k = split n in
      let h : length q ≡ subtree_length 0 (e - k) (n - k) false = omega (arith, g, length-both s e n b l i m w before over) in
      ap is_some (down-both H s e n k b r c q w refl before over)
      ∙ some_mapped (λ v. pair_right H v c) (subtree_down H 0 (e - k) (n - k) false r q) (ih 0 (e - k) (n - k) false r (omega arith) (omega arith) h)

  filled : (q : List (List ℕ)) → Filled q
  filled [] s e n b r l i g = end_filled s e n b r l i (part s e n l i) g
  filled (c ∷ q) s e n b r l i g = more_filled c q (filled q) s e n b r l i (part s e n l i) g

  pub long_enough : (s e n : ℕ) (b : Bool) (r : List ℕ) (p : List (List ℕ)) → s < e → e ≤ n → length p ≡ subtree_length s e n b
      → is_some (subtree_roots H s e n b r p) ≡ true
  unfolding subtree_roots
  long_enough s e n b r p l i g = filled (reverse p) s e n b r l i (length-reverse p ∙ g)
