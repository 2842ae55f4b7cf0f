-- The steps of the walk through two lists along a consistency proof, as the code sees its slices.
use Rattle.std.proofs.Common.{subst, ◌≡◌, ℕ, ◌-◌, ◌<◌, ◌≤◌, sym, ◌∙◌, ap, arith, Bool, true, false, cond, List, [], ◌∷◌, ◌++◌, reverse, length, Some}
use Rattle.ct_tree.proofs.Split.{IsPower, IsSplit, split_is, split_unique}
use Rattle.ct_tree.specs.Tree.{split, hash_node}
use Rattle.ct_verify.proofs.RebuildLaws.{both_left, both_right}
use Rattle.ct_verify.proofs.Both.{both-end, both-end_whole, both-whole}
use Rattle.ct_verify.proofs.Options.{none_some, same_some, mapped, reverse_last}
use Rattle.ct_verify.specs.Climb.{pair_left, pair_right}
use Rattle.ct_verify.specs.Rebuild.{both_roots, both_down, same_pair}

module _ (H : List ℕ → List ℕ) where
  pub short : (m n : ℕ) (b : Bool) (r : List ℕ) (p : List (List ℕ)) (z : List ℕ × List ℕ) → m < n → both_roots H m n b r p ≡ Some z → 0 < length p
  unfolding both_roots
  short m n b r [] z l e = absurd (none_some z (sym (both-end H m n b r l) ∙ e))
  short m n b r (x ∷ p) z l e = omega arith

  -- the pair below a left step
  pub inner_left : (m n k : ℕ) (b : Bool) (r s : List ℕ) (p q : List (List ℕ)) (z : List ℕ × List ℕ) → m < n → split n ≡ k → m ≤ k
      → (0 < length p → p ≡ q ++ s ∷ [])
      → both_roots H m n b r p ≡ Some z → (u : List ℕ × List ℕ) × (both_roots H m k b r q ≡ Some u) × (pair_left H u s ≡ z)
  inner_left m n k b r s p q z l e low w a =
      let f : both_roots H m n b r p ≡ both_roots H m n b r (q ++ s ∷ []) = ap (both_roots H m n b r) (w (short m n b r p z l a)) in
      mapped (λ z. pair_left H z s) (both_roots H m k b r q) z (sym (f ∙ both_left H m n k b r s q l e low) ∙ a)

  pub inner_right : (m n k : ℕ) (b : Bool) (r t s : List ℕ) (p q : List (List ℕ)) (z : List ℕ × List ℕ) → m < n → split n ≡ k → k < m
      → (0 < length p → p ≡ q ++ s ∷ [])
      → both_roots H m n b r p ≡ Some z → (u : List ℕ × List ℕ) × (both_roots H (m - k) (n - k) false t q ≡ Some u) × (pair_right H u s ≡ z)
  inner_right m n k b r t s p q z l e high w a =
      let f : both_roots H m n b r p ≡ both_roots H m n b r (q ++ s ∷ []) = ap (both_roots H m n b r) (w (short m n b r p z l a)) in
      mapped (λ z. pair_right H z s) (both_roots H (m - k) (n - k) false t q) z (sym (f ∙ both_right H m n k b r t s q l e high) ∙ a)

  -- both roots are one value if the lists are equally long
  pub one_pair : (c x y : List ℕ) (q : List (List ℕ)) → same_pair c q ≡ Some (x, y) → (x ≡ c) × (y ≡ c)
  one_pair c x y [] e =
      let z : (c, c) ≡ (x, y) = same_some (c, c) (x, y) e in
      (sym (ap (λ (v : List ℕ × List ℕ). v.0) z), sym (ap (λ (v : List ℕ × List ℕ). v.1) z))
  one_pair c x y (s ∷ q) e = absurd (none_some (x, y) e)

  pub whole_value : (n : ℕ) (b : Bool) (r s x y : List ℕ) (p q : List (List ℕ)) → (0 < length p → p ≡ q ++ s ∷ []) → both_roots H n n b r p ≡ Some (x, y)
      → (x ≡ cond b r s) × (y ≡ cond b r s)
  unfolding both_roots
  whole_value n true r s x y [] q w e = one_pair r x y [] (sym (both-end_whole H n n true r (omega arith)) ∙ e)
  whole_value n false r s x y [] q w e = absurd (none_some (x, y) (sym (both-end_whole H n n false r (omega arith)) ∙ e))
  whole_value n b r s x y (c ∷ p) q w e =
      let z : both_down H n n b r (reverse (c ∷ p)) ≡ both_down H n n b r (s ∷ reverse q) =
      ap (both_down H n n b r) (ap reverse (w (omega arith)) ∙ reverse_last q s) in
      whole_end b (sym z ∙ e)
    where
      whole_end : (b : Bool) → both_down H n n b r (s ∷ reverse q) ≡ Some (x, y) → (x ≡ cond b r s) × (y ≡ cond b r s)
      whole_end true f = absurd (none_some (x, y) (sym (both-whole H n n true r s (reverse q) (omega arith)) ∙ f))
      whole_end false f = one_pair s x y (reverse q) (sym (both-whole H n n false r s (reverse q) (omega arith)) ∙ f)

-- k is also the split of each number of leaves that is greater than k and at most n
pub split_within : (m n k : ℕ) → m < n → k ≡ split n → 0 < k → k < m → split m ≡ k
split_within m n k l e z high =
    let w = split_is n (omega arith) in
    let s : IsSplit m k = record { power = subst IsPower (sym e) w.power; below = high; half = omega (arith, w.half, e) } in
    split_unique m (split m) k (split_is m (omega arith)) s

-- ---- the roots that the proof yields
module _ (H : List ℕ → List ℕ) where
  pub left_roots : (b : Bool) (m n k j : ℕ) (r s v w : List ℕ) (p q : List (List ℕ)) → m < n → k ≡ split n → m ≤ k → j ≡ k → (0 < length p → p ≡ q ++ s ∷ [])
      → ((x y : List ℕ) → both_roots H m j b r q ≡ Some (x, y) → (v ≡ x) × (w ≡ y))
      → (x y : List ℕ) → both_roots H m n b r p ≡ Some (x, y) → (v ≡ x) × (hash_node H w s ≡ y)
  left_roots b m n k j r s v w p q l e low i g known x y a =
      let u = inner_left H m n k b r s p q (x, y) l (sym e) low g a in
      let t = known u.0.0 u.0.1 (ap (λ i. both_roots H m i b r q) i ∙ u.1) in
      (t.0 ∙ ap (λ (z : List ℕ × List ℕ). z.0) u.2, ap (λ z. hash_node H z s) t.1 ∙ ap (λ (z : List ℕ × List ℕ). z.1) u.2)

  pub right_roots : (b : Bool) (m n k i j : ℕ) (r t s v w : List ℕ) (p q : List (List ℕ)) → m < n → k ≡ split n → k < m → i ≡ m - k → j ≡ n - k
      → (0 < length p → p ≡ q ++ s ∷ [])
      → ((x y : List ℕ) → both_roots H i j false t q ≡ Some (x, y) → (v ≡ x) × (w ≡ y))
      → (x y : List ℕ) → both_roots H m n b r p ≡ Some (x, y) → (hash_node H s v ≡ x) × (hash_node H s w ≡ y)
  right_roots b m n k i j r t s v w p q l e high ei ej g known x y a =
      let u = inner_right H m n k b r t s p q (x, y) l (sym e) high g a in
      let o : both_roots H i j false t q ≡ Some (u.0.0, u.0.1) = rw (ei, ej) u.1 in
      let z = known u.0.0 u.0.1 o in
      (ap (λ z. hash_node H s z) z.0 ∙ ap (λ (z : List ℕ × List ℕ). z.0) u.2, ap (λ z. hash_node H s z) z.1 ∙ ap (λ (z : List ℕ × List ℕ). z.1) u.2)

  pub whole_roots : (b : Bool) (m n : ℕ) (r s v : List ℕ) (p q : List (List ℕ)) → m ≡ n → v ≡ cond b r s → (0 < length p → p ≡ q ++ s ∷ [])
      → (x y : List ℕ) → both_roots H m n b r p ≡ Some (x, y) → (v ≡ x) × (v ≡ y)
  whole_roots b m n r s v p q e c g x y a =
      let z = whole_value H n b r s x y p q g (rw e at a) in
      (c ∙ sym z.0, c ∙ sym z.1)
