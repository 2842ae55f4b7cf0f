-- Rebuilding two roots, one level up from the leaves.
use Rattle.std.proofs.Common.{◌≡◌, ℕ, ◌+◌, ◌-◌, ◌/◌, ◌%◌, ◌<◌, ◌≤◌, cond, refl, sym, ◌∙◌, ap, arith, List, [], ◌∷◌, ◌++◌, reverse, Some, None, Bool, true}
use Rattle.std.proofs.Common.{false, ⊎_elim, ◌⊎◌, inl, inr}
use Rattle.std.specs.Option.{option_map}
use Rattle.std.proofs.lemmas.Bool.{lt-ltb, le-ltb, cases_lt}
use Rattle.ct_tree.proofs.Split.{up, split_pos, split_up, Arrives, inside, whole, power_odd, arrives_left}
use Rattle.ct_tree.specs.Tree.{split}
use Rattle.ct_verify.proofs.Along.{along-left, along-right, along-end, along-one, along-past, along-up_odd, along-up_even, along-up_lone}
use Rattle.ct_verify.proofs.Options.{reverse_first}
use Rattle.ct_verify.specs.Climb.{along, pair_left, pair_right, pair_up}
use Rattle.ct_verify.specs.Rebuild.{both_down, both_roots, same_pair}

module _ (H : List ℕ → List ℕ) where
  pub both-left : (m n k : ℕ) (b : Bool) (r s : List ℕ) (q : List (List ℕ)) → m < n → split n ≡ k → m ≤ k
      → both_down H m n b r (s ∷ q) ≡ option_map (λ z. pair_left H z s) (both_down H m k b r q)
  unfolding both_down
  both-left m n k b r s q l e le = rw (lt-ltb m n l, e, le-ltb k m le) refl

  pub both-right : (m n k : ℕ) (b : Bool) (r s : List ℕ) (q : List (List ℕ)) → m < n → split n ≡ k → k < m
      → both_down H m n b r (s ∷ q) ≡ option_map (λ z. pair_right H z s) (both_down H (m - k) (n - k) false r q)
  unfolding both_down
  both-right m n k b r s q l e le = rw (lt-ltb m n l, e, lt-ltb k m le) refl

  pub both-end : (m n : ℕ) (b : Bool) (r : List ℕ) → m < n → both_down H m n b r [] ≡ None
  unfolding both_down
  both-end m n b r l = rw (lt-ltb m n l) refl

  pub both-end_whole : (m n : ℕ) (b : Bool) (r : List ℕ) → n ≤ m → both_down H m n b r [] ≡ cond b (Some (r, r)) None
  unfolding both_down
  both-end_whole m n b r l = rw (le-ltb m n l) refl

  both-end_false : (m n : ℕ) (r : List ℕ) → both_down H m n false r [] ≡ None
  both-end_false m n r = ⊎_elim (λ (h : m < n). both-end m n false r h) (λ (h : n ≤ m). both-end_whole m n false r h) (cases_lt m n)

  pub both-whole : (m n : ℕ) (b : Bool) (r s : List ℕ) (q : List (List ℕ)) → n ≤ m → both_down H m n b r (s ∷ q) ≡ cond b None (same_pair s q)
  unfolding both_down
  both-whole m n b r s q l = rw (le-ltb m n l) refl

  -- ---- if m is even: one level up
  both-up : (r : List ℕ) (q : List (List ℕ)) (m n : ℕ) (b : Bool) → m % 2 ≡ 0 → 0 < m → Arrives m n
      → both_down H m n b r q ≡ both_down H (m / 2) (up n) b r q
  both-up r [] m n b e z (inside l) = both-end m n b r l ∙ sym (both-end (m / 2) (up n) b r (omega arith))
  both-up r [] m n b e z (whole f w) = both-end_whole m n b r (omega arith) ∙ sym (both-end_whole (m / 2) (up n) b r (omega arith))
  both-up r (s ∷ q) m n b e z (whole f w) = both-whole m n b r s q (omega arith) ∙ sym (both-whole (m / 2) (up n) b r s q (omega arith))
  both-up r (s ∷ q) m n b e z (inside l) =
      let more : 2 < n = omega arith in
      let k : up (split n) ≡ split (up n) = omega (arith, split_up n more) in
      ⊎_elim
      (λ (high : split n < m).
      let i : up (n - split n) ≡ up n - split (up n) = omega (arith, split_up n more) in
      let j : (m - split n) / 2 ≡ m / 2 - split (up n) = omega (arith, split_up n more) in
      both-right m n (split n) b r s q l refl high
      ∙ ap (option_map (λ z. pair_right H z s))
      (both-up r q (m - split n) (n - split n) false (omega (arith, split_up n more)) (omega arith) (inside (omega arith)) ∙ rw (i, j) refl)
      ∙ sym (both-right (m / 2) (up n) (split (up n)) b r s q (omega arith) refl (omega (arith, split_up n more))))
      (λ (low : m ≤ split n).
      both-left m n (split n) b r s q l refl low
      ∙ ap (option_map (λ z. pair_left H z s)) (both-up r q m (split n) b e z (arrives_left m n (omega arith) low) ∙ ap (λ u. both_down H (m / 2) u b r q) k)
      ∙ sym (both-left (m / 2) (up n) (split (up n)) b r s q (omega arith) refl (omega (arith, split_up n more))))
      (cases_lt (split n) m)

  -- ---- if m is 1 and r is known: r is the first value
  both-first : (r : List ℕ) (q : List (List ℕ)) (n : ℕ) → both_down H 1 n true r q ≡ along (pair_left H) (pair_right H) 0 n (r, r) q
  unfolding both_down along
  both-first r [] n = refl
  both-first r (s ∷ q) n =
      ⊎_elim
      (λ (h : 1 < n).
      both-left 1 n (split n) true r s q h refl (split_pos n h)
      ∙ ap (option_map (λ z. pair_left H z s)) (both-first r q (split n))
      ∙ sym (along-left (pair_left H) (pair_right H) 0 n (split n) (r, r) s q h refl (split_pos n h)))
      (λ (h : n ≤ 1). rw (le-ltb 1 n h) refl)
      (cases_lt 1 n)

  -- ---- if m is odd: the first element is the first value
  same_pair-past : (s c : List ℕ) (q : List (List ℕ)) → same_pair s (q ++ c ∷ []) ≡ None
  same_pair-past s c [] = refl
  same_pair-past s c (t ∷ q) = refl

  both_one : (c r : List ℕ) (q : List (List ℕ)) → both_down H 1 1 false r (q ++ c ∷ []) ≡ along (pair_left H) (pair_right H) 0 1 (c, c) q
  both_one c r [] = both-whole 1 1 false r c [] (omega arith) ∙ sym (along-one (pair_left H) (pair_right H) 0 (c, c))
  both_one c r (s ∷ q) =
      both-whole 1 1 false r s (q ++ c ∷ []) (omega arith) ∙ same_pair-past s c q
      ∙ sym (along-past (pair_left H) (pair_right H) 0 (c, c) s q)

  both-odd : (c : List ℕ) (q : List (List ℕ)) (r : List ℕ) (m n : ℕ) (b : Bool) → m % 2 ≡ 1 → (b ≡ false) ⊎ (1 < m) → Arrives m n
      → both_down H m n b r (q ++ c ∷ []) ≡ along (pair_left H) (pair_right H) (m - 1) n (c, c) q
  both-odd c q r m n b o (inl f) (whole e w) =
      let i : m ≡ 1 = power_odd m w o in
      let j : n ≡ 1 = omega arith in
      rw (f, i, j) (both_one c r q)
  both-odd c q r m n b o (inr g) (whole e w) = absurd (omega (arith, power_odd m w o))
  both-odd c [] r m n b o d (inside l) =
      let more : 1 < n = omega arith in
      ⊎_elim
      (λ (high : split n < m).
      both-right m n (split n) b r c [] l refl high
      ∙ ap (option_map (λ z. pair_right H z c)) (both-end_false (m - split n) (n - split n) r))
      (λ (low : m ≤ split n).
      both-left m n (split n) b r c [] l refl low
      ∙ ap (option_map (λ z. pair_left H z c)) (both_none m (split n) b r d (arrives_left m n more low) o))
      (cases_lt (split n) m)
      ∙ sym (along-end (pair_left H) (pair_right H) (m - 1) n (c, c) more)
    where
      both_none : (m n : ℕ) (b : Bool) (r : List ℕ) → (b ≡ false) ⊎ (1 < m) → Arrives m n → m % 2 ≡ 1 → both_down H m n b r [] ≡ None
      both_none m n b r (inl f) a o = rw f (both-end_false m n r)
      both_none m n b r (inr g) (inside l) o = both-end m n b r l
      both_none m n b r (inr g) (whole e w) o = absurd (omega (arith, power_odd m w o))
  both-odd c (s ∷ q) r m n b o d (inside l) =
      let more : 1 < n = omega arith in
      ⊎_elim
      (λ (high : split n < m).
      let two : 2 < n = omega (arith, split_pos n more) in
      let i : m - split n - 1 ≡ m - 1 - split n = omega arith in
      both-right m n (split n) b r s (q ++ c ∷ []) l refl high
      ∙ ap (option_map (λ z. pair_right H z s))
      (both-odd c q r (m - split n) (n - split n) false (omega (arith, split_up n two)) (inl refl) (inside (omega arith)) ∙ rw i refl)
      ∙ sym (along-right (pair_left H) (pair_right H) (m - 1) n (split n) (c, c) s q more refl (omega arith)))
      (λ (low : m ≤ split n).
      both-left m n (split n) b r s (q ++ c ∷ []) l refl low
      ∙ ap (option_map (λ z. pair_left H z s)) (both-odd c q r m (split n) b o d (arrives_left m n more low))
      ∙ sym (along-left (pair_left H) (pair_right H) (m - 1) n (split n) (c, c) s q more refl (omega arith)))
      (cases_lt (split n) m)

-- ---- the same for a path in its own order
module _ (H : List ℕ → List ℕ) where
  pub both-halved : (m n : ℕ) (b : Bool) (r : List ℕ) (p : List (List ℕ)) → m % 2 ≡ 0 → 0 < m → m < n
      → both_roots H m n b r p ≡ both_roots H (m / 2) (up n) b r p
  unfolding both_roots
  both-halved m n b r p e z l = both-up H r (reverse p) m n b e z (inside l)

  pub both-begin_known : (n : ℕ) (r : List ℕ) (p : List (List ℕ)) → both_roots H 1 n true r p ≡ pair_up H 0 n (r, r) p
  unfolding both_roots pair_up
  both-begin_known n r p = both-first H r (reverse p) n

  pub both-begin : (m n : ℕ) (b : Bool) (r c : List ℕ) (p : List (List ℕ)) → m % 2 ≡ 1 → 1 < m → m < n
      → both_roots H m n b r (c ∷ p) ≡ pair_up H (m - 1) n (c, c) p
  unfolding both_roots pair_up
  both-begin m n b r c p o g l = rw (reverse_first c p) (both-odd H c (reverse p) r m n b o (inr g) (inside l))

  pub pair_up-one : (m : ℕ) (z : List ℕ × List ℕ) → pair_up H m 1 z [] ≡ Some z
  unfolding pair_up
  pair_up-one m z = along-one (pair_left H) (pair_right H) m z

  pub pair_up-odd : (m n : ℕ) (z : List ℕ × List ℕ) (c : List ℕ) (p : List (List ℕ)) → m % 2 ≡ 1 → m < n
      → pair_up H m n z (c ∷ p) ≡ pair_up H (m / 2) (up n) (pair_right H z c) p
  unfolding pair_up
  pair_up-odd m n z c p o l = rw (reverse_first c p) (along-up_odd (pair_left H) (pair_right H) c z (reverse p) m n o l)

  pub pair_up-even : (m n : ℕ) (z : List ℕ × List ℕ) (c : List ℕ) (p : List (List ℕ)) → m % 2 ≡ 0 → m + 1 < n
      → pair_up H m n z (c ∷ p) ≡ pair_up H (m / 2) (up n) (pair_left H z c) p
  unfolding pair_up
  pair_up-even m n z c p o l = rw (reverse_first c p) (along-up_even (pair_left H) (pair_right H) c z (reverse p) m n o l)

  pub pair_up-lone : (m n : ℕ) (z : List ℕ × List ℕ) (p : List (List ℕ)) → m % 2 ≡ 0 → m + 1 ≡ n → 1 < n
      → pair_up H m n z p ≡ pair_up H (m / 2) (up n) z p
  unfolding pair_up
  pair_up-lone m n z p o l g = along-up_lone (pair_left H) (pair_right H) z (reverse p) m n o l g
