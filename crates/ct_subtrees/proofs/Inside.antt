-- The audit path of a leaf of a subtree, and the subtrees whose consistency proof is that of the leaves before their end.
use Rattle.std.proofs.Common.{◌≡◌, ℕ, zero, suc, ◌+◌, ◌-◌, ◌*◌, ◌^◌, ◌<◌, ◌≤◌, Bool, true, false, sym, ◌∙◌, ap, subst, arith, List, [], ◌∷◌, ◌++◌, length, take, drop, length-drop}
use Rattle.std.proofs.Common.{⊎_elim, ◌⊎◌, inl, inr}
use Rattle.std.proofs.lemmas.Bool.{cases_lt}
use Rattle.std.proofs.lemmas.List.{length-take-le, take_all, append-nil, append_assoc}
use Rattle.std.proofs.Math.Nat.{pow-le-pow_right, pow-suc, mul-le-mul_right, lt_of_mul-lt-mul_right}
use Rattle.std.proofs.lemmas.Nat.{pow-add}
use Rattle.ct_tree.proofs.Split.{split_is, split_lt, split_induct}
use Rattle.ct_tree.proofs.Path.{path-left, path-right}
use Rattle.ct_tree.proofs.Subproof.{subproof-left, subproof-right}
use Rattle.ct_tree.specs.Tree.{split, mth, path, subproof}
use Rattle.ct_subtrees.proofs.Whole.{all, first_part, second_part, both_parts, part, first_ends, subtree_right, subtree_both}
use Rattle.ct_subtrees.proofs.Subproof.{subtree-whole, subtree-left, subtree-right, subtree-both}
use Rattle.ct_subtrees.proofs.Special.{first_proof}
use Rattle.ct_subtrees.proofs.Rebuilds.{slice_left, slice_right}
use Rattle.ct_subtrees.specs.Cover.{IsPower}
use Rattle.ct_subtrees.specs.Subtrees.{IsSubtree, slice, is_whole, subtree_subproof}

-- ---- powers of two
pub higher : (a b : ℕ) → 2 ^ a < 2 ^ b → 2 * 2 ^ a ≤ 2 ^ b
higher a b l =
    let z : 0 < 2 = omega arith in
    ⊎_elim
    (λ (h : a < b).
    let i : suc a ≤ b = h in
    omega (arith, pow-suc 2 a, pow-le-pow_right z i))
    (λ (h : b ≤ a). absurd (omega (arith, l, pow-le-pow_right z h)))
    (cases_lt a b)

-- a tree of n leaves is split at k: a power of two between k and n is n
pub power_within : (k n e : ℕ) → k < e → n ≤ 2 * k → IsPower e → ((a : ℕ) × (k ≡ 2 ^ a)) → n ≤ e
power_within k n e l h (b, f) (a, g) =
    let less : 2 ^ a < 2 ^ b = omega (arith, l, f, g) in
    omega (arith, h, f, g, higher a b less)

-- a subtree that ends with a power of two is full
pub full_at_power : (s k a : ℕ) → IsSubtree s k → k ≡ 2 ^ a → IsPower (k - s)
full_at_power s k a (l, (j, zero, is, end)) e = (a, omega (arith, is, e))
full_at_power s k a (l, (j, suc q, is, end)) e = (j, by_cases (cases_lt a j))
  where
    some : suc q * 2 ^ j ≡ q * 2 ^ j + 2 ^ j
    some = omega arith

    by_cases : (a < j) ⊎ (j ≤ a) → k - s ≡ 2 ^ j
    by_cases (inl h) =
        let z : 0 < 2 = omega arith in
        let i : a ≤ j = omega arith in
        absurd (omega (arith, l, is, e, some, pow-le-pow_right z i))
    by_cases (inr h) =
        let t = 2 ^ (a - j) in
        let f : a ≡ (a - j) + j = omega arith in
        let block : k ≡ t * 2 ^ j = e ∙ ap (λ v. 2 ^ v) f ∙ pow-add 2 (a - j) j in
        let below : suc q * 2 ^ j < t * 2 ^ j = omega (arith, l, is, block) in
        let less : suc q < t = lt_of_mul-lt-mul_right (2 ^ j) below in
        let next : suc (suc q) * 2 ^ j ≤ t * 2 ^ j = mul-le-mul_right (2 ^ j) less in
        let two : suc (suc q) * 2 ^ j ≡ suc q * 2 ^ j + 2 ^ j = omega arith in
        omega (arith, l, is, end, block, next, two)

module _ (H : List ℕ → List ℕ) where
  -- ---- a full subtree, or one that ends with the tree: the path of a leaf is first that in the subtree, and then the subtree's proof
  pub path-inside_at : (n i s e : ℕ) (D : List (List ℕ)) → length D ≡ n → IsSubtree s e → s ≤ i → i < e → e ≤ n → IsPower (e - s) ⊎ (e ≡ n)
      → path H i D ≡ path H (i - s) (slice s e D) ++ subtree_subproof H s e D true
  path-inside_at =
      split_induct (λ n. (i s e : ℕ) (D : List (List ℕ)) → length D ≡ n → IsSubtree s e → s ≤ i → i < e → e ≤ n → IsPower (e - s) ⊎ (e ≡ n)
      → path H i D ≡ path H (i - s) (slice s e D) ++ subtree_subproof H s e D true)
      (λ i s e D f v a b c k. absurd (omega arith))
      (λ i s e D f v a b c k. whole i s e D v.0 (omega arith) (omega arith))
      step
    where
      whole : (i s e : ℕ) (D : List (List ℕ)) → s < e → s ≡ 0 → e ≡ length D
          → path H i D ≡ path H (i - s) (slice s e D) ++ subtree_subproof H s e D true
      whole i s e D l y g =
          let f : i ≡ i - s = omega arith in
          let all_of : D ≡ slice s e D = sym (ap (λ u. drop u (take e D)) y ∙ take_all e D (omega arith)) in
          ap (λ u. path H u D) f ∙ ap (path H (i - s)) all_of ∙ sym (append-nil (path H (i - s) (slice s e D)))
          ∙ ap (λ r. path H (i - s) (slice s e D) ++ r) (sym (subtree-whole H s e D true l y g))

      step : (n : ℕ) → 1 < n
          → ((i s e : ℕ) (D : List (List ℕ)) → length D ≡ split n → IsSubtree s e → s ≤ i → i < e → e ≤ split n → IsPower (e - s) ⊎ (e ≡ split n)
          → path H i D ≡ path H (i - s) (slice s e D) ++ subtree_subproof H s e D true)
          → ((i s e : ℕ) (D : List (List ℕ)) → length D ≡ n - split n → IsSubtree s e → s ≤ i → i < e → e ≤ n - split n → IsPower (e - s) ⊎ (e ≡ n - split n)
          → path H i D ≡ path H (i - s) (slice s e D) ++ subtree_subproof H s e D true)
          → (i s e : ℕ) (D : List (List ℕ)) → length D ≡ n → IsSubtree s e → s ≤ i → i < e → e ≤ n → IsPower (e - s) ⊎ (e ≡ n)
          → path H i D ≡ path H (i - s) (slice s e D) ++ subtree_subproof H s e D true
      step n h left_one right_one i s e D f v a b c full =
          let k = split n in
          let less = split_lt n h in
          elim (part s e n v.0 c) [
            | all y g ↦ whole i s e D v.0 y (omega (arith, g))
            | first_part m w low ↦
                let x : is_whole s e (length D) ≡ false = rw f w in
                let same : slice s e (take k D) ≡ slice s e D = slice_left s e k D low in
                let rest = mth H (drop k D) ∷ [] in
                let power : IsPower (e - s) ⊎ (e ≡ k) = elim full [ inl p ↦ inl p | inr g ↦ absurd (omega (arith, g, low, less)) ] in
                path-left H i k D (omega arith) (ap split f) (omega arith)
                ∙ ap (λ r. r ++ rest) (left_one i s e (take k D) (length-take-le k D (omega (arith, less))) v a b low power)
                ∙ ap (λ u. path H (i - s) u ++ subtree_subproof H s e (take k D) true ++ rest) same
                ∙ append_assoc (path H (i - s) (slice s e D)) (subtree_subproof H s e (take k D) true) rest
                ∙ ap (λ r. path H (i - s) (slice s e D) ++ r) (sym (subtree-left H s e k D true v.0 (omega arith) (omega arith) x (ap split f) low))
            | second_part m w high ↦
                let x : is_whole s e (length D) ≡ false = rw f w in
                let p = split_is n h in
                let j : i - k - (s - k) ≡ i - s = omega arith in
                let same : slice (s - k) (e - k) (drop k D) ≡ slice s e D = slice_right s e k D high v.0 in
                let rest = mth H (take k D) ∷ [] in
                let count : e - k - (s - k) ≡ e - s = omega arith in
                let power : IsPower (e - k - (s - k)) ⊎ (e - k ≡ n - k) =
                elim full [ inl q ↦ inl (subst IsPower (sym count) q) | inr g ↦ inr (ap (λ u. u - k) g) ] in
                path-right H i k D (omega arith) (ap split f) (omega arith)
                ∙ ap (λ r. r ++ rest) (right_one (i - k) (s - k) (e - k) (drop k D) (omega (arith, length-drop k D))
                (subtree_right s e k v p.power high (omega (arith, p.half))) (omega arith) (omega arith) (omega arith) power)
                ∙ ap (λ u. path H (i - k - (s - k)) u ++ subtree_subproof H (s - k) (e - k) (drop k D) true ++ rest) same
                ∙ ap (λ u. path H u (slice s e D) ++ subtree_subproof H (s - k) (e - k) (drop k D) true ++ rest) j
                ∙ append_assoc (path H (i - s) (slice s e D)) (subtree_subproof H (s - k) (e - k) (drop k D) true) rest
                ∙ ap (λ r. path H (i - s) (slice s e D) ++ r) (sym (subtree-right H s e k D true v.0 (omega arith) (omega arith) x (ap split f) high))
            | both_parts m w before over ↦
                let p = split_is n h in
                let z : s ≡ 0 = subtree_both s e k v p.power before over in
                let ends = first_ends s e n z w in
                absurd (elim full [
                  | inl q ↦
                      let g : e - s ≡ e = omega arith in
                      omega (arith, ends, power_within k n e over p.half (subst IsPower g q) (p.power.exponent, p.power.is))
                  | inr g ↦ omega (arith, ends, g)
                ])
          ]

  -- ---- another subtree: its proof is that of the leaves before its end
  pub sub-partial_at : (n s e : ℕ) (D : List (List ℕ)) (b c : Bool) → length D ≡ n → IsSubtree s e → e < n → (IsPower (e - s) → ⊥)
      → subtree_subproof H s e D b ≡ subproof H e D c
  sub-partial_at =
      split_induct (λ n. (s e : ℕ) (D : List (List ℕ)) (b c : Bool) → length D ≡ n → IsSubtree s e → e < n → (IsPower (e - s) → ⊥)
      → subtree_subproof H s e D b ≡ subproof H e D c)
      (λ s e D b c f v i q. absurd (omega arith))
      (λ s e D b c f v i q. absurd (omega (arith, v.0)))
      step
    where
      step : (n : ℕ) → 1 < n
          → ((s e : ℕ) (D : List (List ℕ)) (b c : Bool) → length D ≡ split n → IsSubtree s e → e < split n → (IsPower (e - s) → ⊥)
          → subtree_subproof H s e D b ≡ subproof H e D c)
          → ((s e : ℕ) (D : List (List ℕ)) (b c : Bool) → length D ≡ n - split n → IsSubtree s e → e < n - split n → (IsPower (e - s) → ⊥)
          → subtree_subproof H s e D b ≡ subproof H e D c)
          → (s e : ℕ) (D : List (List ℕ)) (b c : Bool) → length D ≡ n → IsSubtree s e → e < n → (IsPower (e - s) → ⊥)
          → subtree_subproof H s e D b ≡ subproof H e D c
      step n h left_one right_one s e D b c f v i q =
          let k = split n in
          let less = split_lt n h in
          let p = split_is n h in
          elim (part s e n v.0 (omega arith)) [
            | all y g ↦ absurd (omega (arith, g))
            | first_part m w low ↦
                let x : is_whole s e (length D) ≡ false = rw f w in
                ⊎_elim
                (λ (inside : e < k).
                subtree-left H s e k D b v.0 (omega arith) (omega arith) x (ap split f) low
                ∙ ap (λ r. r ++ mth H (drop k D) ∷ []) (left_one s e (take k D) b c (length-take-le k D (omega (arith, less))) v inside q)
                ∙ sym (subproof-left H e k D c (omega (arith, v.0)) (omega arith) (ap split f) low))
                (λ (outside : k ≤ e).
                let g : e ≡ k = omega arith in
                absurd (q (full_at_power s e p.power.exponent v (g ∙ p.power.is))))
                (cases_lt e k)
            | second_part m w high ↦
                let x : is_whole s e (length D) ≡ false = rw f w in
                let count : e - k - (s - k) ≡ e - s = omega arith in
                subtree-right H s e k D b v.0 (omega arith) (omega arith) x (ap split f) high
                ∙ ap (λ r. r ++ mth H (take k D) ∷ []) (right_one (s - k) (e - k) (drop k D) b false (omega (arith, length-drop k D))
                (subtree_right s e k v p.power high (omega (arith, p.half, v.0))) (omega (arith, v.0)) (λ t. q (subst IsPower count t)))
                ∙ sym (subproof-right H e k D c (omega (arith, v.0)) (omega arith) (ap split f) (omega (arith, v.0)))
            | both_parts m w before over ↦
                let x : is_whole s e (length D) ≡ false = rw f w in
                subtree-both H s e k D b v.0 (omega arith) (omega arith) x (ap split f) before over
                ∙ ap (λ r. r ++ mth H (take k D) ∷ []) (first_proof H (n - k) (e - k) (drop k D) false (omega (arith, length-drop k D)) (omega arith) (omega arith))
                ∙ sym (subproof-right H e k D c (omega arith) (omega arith) (ap split f) over)
          ]
