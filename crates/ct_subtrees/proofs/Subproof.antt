-- The defining equations of SUBTREE_SUBPROOF, and its length.
use Rattle.std.proofs.Common.{◌≡◌, ℕ, zero, suc, ◌-◌, ◌<◌, ◌≤◌, cond, Bool, true, false, refl, sym, ◌∙◌, ap, arith, List, [], ◌∷◌, ◌++◌, length, take, drop, length-drop}
use Rattle.std.proofs.lemmas.Bool.{lt-ltb, le-ltb}
use Rattle.std.proofs.lemmas.List.{length_push, length-take-le}
use Rattle.ct_tree.proofs.Split.{split_pos, split_lt, split_induct}
use Rattle.ct_tree.specs.Tree.{split, mth}
use Rattle.ct_subtrees.specs.Subtrees.{is_whole, subtree_subproof_within, subtree_subproof, subtree_length}
use Rattle.ct_subtrees.proofs.Whole.{Part, all, first_part, second_part, both_parts, part, whole_is}
use Rattle.ct_subtrees.proofs.Length.{length-whole, length-left, length-right, length-both}

module _ (H : List ℕ → List ℕ) where
  abbrev Enough : ℕ → ℕ → Type 0
  Enough d g =
      (s e : ℕ) (D : List (List ℕ)) (b : Bool) → s < e → e ≤ length D → length D ≤ suc d → length D ≤ suc g
      → subtree_subproof_within H d s e D b ≡ subtree_subproof_within H g s e D b

  short_left : (D : List (List ℕ)) → 1 < length D → length (take (split (length D)) D) ≡ split (length D)
  short_left D m = length-take-le (split (length D)) D (omega (arith, split_lt (length D) m))

  more_enough : (d g : ℕ) → Enough d g → (s e : ℕ) (D : List (List ℕ)) (b : Bool) → s < e → e ≤ length D → length D ≤ suc (suc d)
      → length D ≤ suc (suc g) → Part s e (length D) → subtree_subproof_within H (suc d) s e D b ≡ subtree_subproof_within H (suc g) s e D b
  unfolding subtree_subproof_within
  more_enough d g ih s e D b l i p q (all z f) = rw (whole_is s e (length D) z (omega arith)) refl
  more_enough d g ih s e D b l i p q (first_part m w low) =
      let k = split (length D) in
      rw (w, le-ltb k e low)
      (ap (λ r. r ++ mth H (drop k D) ∷ []) (ih s e (take k D) b l (omega (arith, short_left D m))
      (omega (arith, short_left D m, split_lt (length D) m)) (omega (arith, short_left D m, split_lt (length D) m))))
  more_enough d g ih s e D b l i p q (second_part m w high) =
      let k = split (length D) in
      let over : k < e = omega arith in
      rw (w, lt-ltb k e over, le-ltb s k high)
      (ap (λ r. r ++ mth H (take k D) ∷ []) (ih (s - k) (e - k) (drop k D) b (omega arith) (omega (arith, length-drop k D))
      (omega (arith, length-drop k D, split_pos (length D) m)) (omega (arith, length-drop k D, split_pos (length D) m))))
  more_enough d g ih s e D b l i p q (both_parts m w before over) =
      let k = split (length D) in
      rw (w, lt-ltb k e over, lt-ltb s k before)
      (ap (λ r. r ++ mth H (take k D) ∷ []) (ih 0 (e - k) (drop k D) false (omega arith) (omega (arith, length-drop k D))
      (omega (arith, length-drop k D, split_pos (length D) m)) (omega (arith, length-drop k D, split_pos (length D) m))))

  enough : (d g : ℕ) → Enough d g
  unfolding subtree_subproof_within
  enough zero zero s e D b l i p q = refl
  enough zero (suc g) s e D b l i p q = rw (whole_is s e (length D) (omega arith) (omega arith)) refl
  enough (suc d) zero s e D b l i p q = rw (whole_is s e (length D) (omega arith) (omega arith)) refl
  enough (suc d) (suc g) s e D b l i p q = more_enough d g (enough d g) s e D b l i p q (part s e (length D) l i)

  pub subtree-whole : (s e : ℕ) (D : List (List ℕ)) (b : Bool) → s < e → s ≡ 0 → e ≡ length D → subtree_subproof H s e D b ≡ cond b [] (mth H D ∷ [])
  unfolding subtree_subproof subtree_subproof_within
  subtree-whole s e D b l z f =
      enough (length D) (suc (length D)) s e D b l (omega arith) (omega arith) (omega arith)
      ∙ rw (whole_is s e (length D) z (omega arith)) refl

  pub subtree-left : (s e k : ℕ) (D : List (List ℕ)) (b : Bool) → s < e → e ≤ length D → 1 < length D → is_whole s e (length D) ≡ false
      → split (length D) ≡ k → e ≤ k → subtree_subproof H s e D b ≡ subtree_subproof H s e (take k D) b ++ mth H (drop k D) ∷ []
  unfolding subtree_subproof subtree_subproof_within
  subtree-left s e k D b l i m w f low =
      let n : length (take k D) ≡ k = length-take-le k D (omega (arith, split_lt (length D) m)) in
      enough (length D) (suc (length D)) s e D b l i (omega arith) (omega arith)
      ∙ rw (w, f, le-ltb k e low)
      (ap (λ r. r ++ mth H (drop k D) ∷ [])
      (enough (length D) (length (take k D)) s e (take k D) b l (omega arith) (omega (arith, split_lt (length D) m)) (omega arith)))

  pub subtree-right : (s e k : ℕ) (D : List (List ℕ)) (b : Bool) → s < e → e ≤ length D → 1 < length D → is_whole s e (length D) ≡ false
      → split (length D) ≡ k → k ≤ s → subtree_subproof H s e D b ≡ subtree_subproof H (s - k) (e - k) (drop k D) b ++ mth H (take k D) ∷ []
  unfolding subtree_subproof subtree_subproof_within
  subtree-right s e k D b l i m w f high =
      let over : k < e = omega arith in
      enough (length D) (suc (length D)) s e D b l i (omega arith) (omega arith)
      ∙ rw (w, f, lt-ltb k e over, le-ltb s k high)
      (ap (λ r. r ++ mth H (take k D) ∷ [])
      (enough (length D) (length (drop k D)) (s - k) (e - k) (drop k D) b (omega arith) (omega (arith, length-drop k D)) (omega (arith, length-drop k D))
      (omega arith)))

  pub subtree-both : (s e k : ℕ) (D : List (List ℕ)) (b : Bool) → s < e → e ≤ length D → 1 < length D → is_whole s e (length D) ≡ false
      → split (length D) ≡ k → s < k → k < e → subtree_subproof H s e D b ≡ subtree_subproof H 0 (e - k) (drop k D) false ++ mth H (take k D) ∷ []
  unfolding subtree_subproof subtree_subproof_within
  subtree-both s e k D b l i m w f before over =
      enough (length D) (suc (length D)) s e D b l i (omega arith) (omega arith)
      ∙ rw (w, f, lt-ltb k e over, lt-ltb s k before)
      (ap (λ r. r ++ mth H (take k D) ∷ [])
      (enough (length D) (length (drop k D)) 0 (e - k) (drop k D) false (omega arith) (omega (arith, length-drop k D)) (omega (arith, length-drop k D))
      (omega arith)))

  -- ---- the length
  by_known : (b : Bool) (x : List ℕ) → length (cond b [] (x ∷ [])) ≡ cond b 0 1
  by_known true x = refl
  by_known false x = refl

  abbrev HasLength : ℕ → Type 0
  HasLength n = (s e : ℕ) (D : List (List ℕ)) (b : Bool) → length D ≡ n → s < e → e ≤ n → length (subtree_subproof H s e D b) ≡ subtree_length s e n b

  part_length : (n : ℕ) → (1 < n → HasLength (split n)) → (1 < n → HasLength (n - split n)) → (s e : ℕ) (D : List (List ℕ)) (b : Bool)
      → length D ≡ n → s < e → e ≤ n → Part s e n → length (subtree_subproof H s e D b) ≡ subtree_length s e n b
  part_length n below_left below_right s e D b j l i (all z f) =
      ap length (subtree-whole s e D b l z (omega arith)) ∙ by_known b (mth H D) ∙ sym (length-whole s e n b l z f)
  part_length n below_left below_right s e D b j l i (first_part m w low) =
      let k = split n in
      let t : length (take k D) ≡ k = length-take-le k D (omega (arith, split_lt n m)) in
      ap length (subtree-left s e k D b l (omega arith) (omega arith) (ap (is_whole s e) j ∙ w) (ap split j) low)
      ∙ omega (arith, length_push (subtree_subproof H s e (take k D) b) (mth H (drop k D)), below_left m s e (take k D) b t l low, length-left s e n b l i m w low)
  part_length n below_left below_right s e D b j l i (second_part m w high) =
      let k = split n in
      let t : length (drop k D) ≡ n - k = omega (arith, length-drop k D) in
      ap length (subtree-right s e k D b l (omega arith) (omega arith) (ap (is_whole s e) j ∙ w) (ap split j) high)
      ∙ omega (
        arith,
        length_push (subtree_subproof H (s - k) (e - k) (drop k D) b) (mth H (take k D)),
        below_right m (s - k) (e - k) (drop k D) b t (omega arith) (omega arith),
        length-right s e n b l i m w high,
      )
  part_length n below_left below_right s e D b j l i (both_parts m w before over) =
      let k = split n in
      let t : length (drop k D) ≡ n - k = omega (arith, length-drop k D) in
      ap length (subtree-both s e k D b l (omega arith) (omega arith) (ap (is_whole s e) j ∙ w) (ap split j) before over)
      ∙ omega (
        arith,
        length_push (subtree_subproof H 0 (e - k) (drop k D) false) (mth H (take k D)),
        below_right m 0 (e - k) (drop k D) false t (omega arith) (omega arith),
        length-both s e n b l i m w before over,
      )

  pub length-subtree : (n : ℕ) → HasLength n
  length-subtree =
      split_induct HasLength
      (λ s e D b j l i. absurd (omega arith))
      (λ s e D b j l i. part_length 1 (λ m. absurd (omega arith)) (λ m. absurd (omega arith)) s e D b j l i (part s e 1 l i))
      (λ n m below_left below_right s e D b j l i. part_length n (λ _. below_left) (λ _. below_right) s e D b j l i (part s e n l i))
