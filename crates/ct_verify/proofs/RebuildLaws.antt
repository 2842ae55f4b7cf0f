-- A PATH rebuilds MTH, and a PROOF rebuilds both.
use Rattle.std.proofs.Common.{◌≡◌, ℕ, zero, suc, ◌+◌, ◌-◌, ◌<◌, ◌≤◌, cond, Bool, true, false, refl, subst, sym, ◌∙◌, ap, arith, List, [], ◌∷◌, ◌++◌, reverse}
use Rattle.std.proofs.Common.{length, take, drop, get_or, Some, length-drop, ⊎_elim}
use Rattle.std.specs.Option.{option_map}
use Rattle.std.proofs.lemmas.Bool.{cases_lt}
use Rattle.std.proofs.lemmas.List.{length-take-le, get_or-take, get_or-drop, take-take, take_all, drop-take}
use Rattle.ct_tree.proofs.Split.{IsPower, IsSplit, split_is, split_unique, split_pos, split_lt, split_induct}
use Rattle.ct_tree.proofs.Mth.{mth-one, mth-split_at}
use Rattle.ct_tree.proofs.Path.{path-small, path-left, path-right}
use Rattle.ct_tree.proofs.Subproof.{subproof-whole, subproof-left, subproof-right}
use Rattle.ct_tree.specs.Tree.{split, hash_node, mth, path, subproof}
use Rattle.ct_verify.proofs.Options.{reverse_last}
use Rattle.ct_verify.proofs.Rebuild.{rebuild-one, rebuild_left, rebuild_right}
use Rattle.ct_verify.proofs.Both.{both-left, both-right, both-end_whole, both-whole}
use Rattle.ct_verify.specs.Climb.{pair_left, pair_right}
use Rattle.ct_verify.specs.Rebuild.{rebuild, both_roots, both_down}

module _ (H : List ℕ → List ℕ) where
  pub rebuild-left : (m n k : ℕ) (h s : List ℕ) (q : List (List ℕ)) → 1 < n → split n ≡ k → m < k
      → rebuild H m n h (q ++ s ∷ []) ≡ option_map (λ r. hash_node H r s) (rebuild H m k h q)
  unfolding rebuild
  rebuild-left m n k h s q l e low = rw (reverse_last q s) (rebuild_left H m n k h s (reverse q) l e low)

  pub rebuild-right : (m n k : ℕ) (h s : List ℕ) (q : List (List ℕ)) → 1 < n → split n ≡ k → k ≤ m
      → rebuild H m n h (q ++ s ∷ []) ≡ option_map (λ r. hash_node H s r) (rebuild H (m - k) (n - k) h q)
  unfolding rebuild
  rebuild-right m n k h s q l e high = rw (reverse_last q s) (rebuild_right H m n k h s (reverse q) l e high)

  pub path_rebuilds_at : (n m : ℕ) (D : List (List ℕ)) → length D ≡ n → m < n → rebuild H m n (get_or D m []) (path H m D) ≡ Some (mth H D)
  path_rebuilds_at =
      split_induct (λ n. (m : ℕ) (D : List (List ℕ)) → length D ≡ n → m < n → rebuild H m n (get_or D m []) (path H m D) ≡ Some (mth H D))
      (λ m D e l. absurd (omega arith))
      one
      (λ n h left right m D e l.
      let f : split (length D) ≡ split n = ap split e in
      let root = mth-split_at H D (split n) (omega arith) f in
      ⊎_elim
      (λ (low : m < split n).
      rw (
        path-left H m (split n) D (omega arith) f low,
        rebuild-left m n (split n) (get_or D m []) (mth H (drop (split n) D))
            (path H m (take (split n) D)) h refl low,
      )
      (ap (option_map (λ r. hash_node H r (mth H (drop (split n) D))))
      (ap (λ x. rebuild H m (split n) x (path H m (take (split n) D))) (sym (get_or-take (split n) D m [] low))
      ∙ left m (take (split n) D) (length-take-le (split n) D (omega (arith, split_lt n h))) low)
      ∙ ap Some (sym root)))
      (λ (high : split n ≤ m).
      let j : split n + (m - split n) ≡ m = omega arith in
      rw (
        path-right H m (split n) D (omega arith) f high,
        rebuild-right m n (split n) (get_or D m []) (mth H (take (split n) D))
            (path H (m - split n) (drop (split n) D)) h refl high,
      )
      (ap (option_map (λ r. hash_node H (mth H (take (split n) D)) r))
      (ap (λ x. rebuild H (m - split n) (n - split n) x (path H (m - split n) (drop (split n) D)))
      (sym (get_or-drop (split n) D (m - split n) [] ∙ ap (λ u. get_or D u []) j))
      ∙ right (m - split n) (drop (split n) D) (omega (arith, length-drop (split n) D)) (omega arith))
      ∙ ap Some (sym root)))
      (cases_lt m (split n)))
    where
      one : (m : ℕ) (D : List (List ℕ)) → length D ≡ 1 → m < 1 → rebuild H m 1 (get_or D m []) (path H m D) ≡ Some (mth H D)
      one m [] e l = absurd (omega arith)
      one m (x ∷ y ∷ D) e l = absurd (omega arith)
      one (suc m) (x ∷ []) e l = absurd (omega arith)
      one zero (x ∷ []) e l = rw (path-small H 0 (x ∷ []) (omega arith), mth-one H x) (rebuild-one H 0 x)

  -- ---- both
  both_any : (r t : List ℕ) (q : List (List ℕ)) (m n : ℕ) → both_down H m n false r q ≡ both_down H m n false t q
  unfolding both_down
  both_any r t [] m n = refl
  both_any r t (s ∷ q) m n = rw (both_any r t q (m - split n) (n - split n), both_any r t q m (split n)) refl

  pub both_left : (m n k : ℕ) (b : Bool) (r s : List ℕ) (q : List (List ℕ)) → m < n → split n ≡ k → m ≤ k
      → both_roots H m n b r (q ++ s ∷ []) ≡ option_map (λ z. pair_left H z s) (both_roots H m k b r q)
  unfolding both_roots
  both_left m n k b r s q l e low = rw (reverse_last q s) (both-left H m n k b r s (reverse q) l e low)

  pub both_right : (m n k : ℕ) (b : Bool) (r t s : List ℕ) (q : List (List ℕ)) → m < n → split n ≡ k → k < m
      → both_roots H m n b r (q ++ s ∷ []) ≡ option_map (λ z. pair_right H z s) (both_roots H (m - k) (n - k) false t q)
  unfolding both_roots
  both_right m n k b r t s q l e high =
      rw (reverse_last q s) (both-right H m n k b r s (reverse q) l e high ∙ ap (option_map (λ z. pair_right H z s)) (both_any r t (reverse q) (m - k) (n - k)))

  both_whole : (n : ℕ) (b : Bool) (x : List ℕ) → both_roots H n n b x (cond b [] (x ∷ [])) ≡ Some (x, x)
  unfolding both_roots
  both_whole n true x = both-end_whole H n n true x (omega arith)
  both_whole n false x = both-whole H n n false x x [] (omega arith)

  pub both_whole_known : (n : ℕ) (x : List ℕ) → both_roots H n n true x [] ≡ Some (x, x)
  both_whole_known n x = both_whole n true x

  pub both_whole_given : (n : ℕ) (r x : List ℕ) → both_roots H n n false r (x ∷ []) ≡ Some (x, x)
  unfolding both_roots
  both_whole_given n r x = both-whole H n n false r x [] (omega arith)

  -- MTH of more than k of the leaves
  pub first_root : (m k : ℕ) (D : List (List ℕ)) → split (length D) ≡ k → k < m → m < length D
      → mth H (take m D) ≡ hash_node H (mth H (take k D)) (mth H (take (m - k) (drop k D)))
  first_root m k D e high l =
      let n : length (take m D) ≡ m = length-take-le m D (omega arith) in
      let w = split_is (length D) (omega arith) in
      let z : IsSplit m k = record { power = subst IsPower e w.power; below = high; half = omega (arith, w.half) } in
      let f : split (length (take m D)) ≡ k = ap split n ∙ split_unique m (split m) k (split_is m (omega (arith, split_pos (length D) (omega arith)))) z in
      let j : k + (m - k) ≡ m = omega arith in
      mth-split_at H (take m D) k (omega (arith, split_pos (length D) (omega arith))) f
      ∙ rw (take-take k m D (omega arith)) (ap (λ r. hash_node H (mth H (take k D)) (mth H r)) (ap (λ u. drop k (take u D)) (sym j) ∙ drop-take k (m - k) D))

  pub proof_rebuilds_at : (n m : ℕ) (D : List (List ℕ)) (b : Bool) → length D ≡ n → 0 < m → m ≤ n
      → both_roots H m n b (mth H (take m D)) (subproof H m D b) ≡ Some (mth H (take m D), mth H D)
  proof_rebuilds_at =
      split_induct (λ n. (m : ℕ) (D : List (List ℕ)) (b : Bool) → length D ≡ n → 0 < m → m ≤ n
      → both_roots H m n b (mth H (take m D)) (subproof H m D b) ≡ Some (mth H (take m D), mth H D))
      (λ m D b e z i. absurd (omega arith))
      (λ m D b e z i. all 1 m D b e z (omega arith))
      (λ n h left right m D b e z i. ⊎_elim
      (λ (l : m < n).
      let f : split (length D) ≡ split n = ap split e in
      let root = mth-split_at H D (split n) (omega arith) f in
      ⊎_elim
      (λ (high : split n < m).
      let s = mth H (take (split n) D) in
      let t = mth H (take (m - split n) (drop (split n) D)) in
      let first = first_root m (split n) D f high (omega arith) in
      rw (subproof-right H m (split n) D b z (omega arith) f high)
      (both_right m n (split n) b (mth H (take m D)) t s (subproof H (m - split n) (drop (split n) D) false) l refl high
      ∙ ap (option_map (λ z. pair_right H z s))
      (right (m - split n) (drop (split n) D) false (omega (arith, length-drop (split n) D)) (omega arith) (omega arith))
      ∙ rw (sym first, sym root) refl))
      (λ (low : m ≤ split n).
      let s = mth H (drop (split n) D) in
      let a : mth H (take m (take (split n) D)) ≡ mth H (take m D) = ap (mth H) (take-take m (split n) D low) in
      rw (subproof-left H m (split n) D b z (omega arith) f low)
      (both_left m n (split n) b (mth H (take m D)) s (subproof H m (take (split n) D) b) l refl low
      ∙ ap (option_map (λ z. pair_left H z s)) (rw a at (left m (take (split n) D) b (length-take-le (split n) D (omega (arith, split_lt n h))) z low))
      ∙ ap (λ y. Some (mth H (take m D), y)) (sym root)))
      (cases_lt (split n) m))
      (λ (g : n ≤ m). all n m D b e z (omega arith))
      (cases_lt m n))
    where
      all : (n m : ℕ) (D : List (List ℕ)) (b : Bool) → length D ≡ n → 0 < m → m ≡ n
          → both_roots H m n b (mth H (take m D)) (subproof H m D b) ≡ Some (mth H (take m D), mth H D)
      all n m D b e z g =
          let t : take m D ≡ D = take_all m D (omega arith) in
          rw (t, subproof-whole H m D b z (omega arith), g) (both_whole n b (mth H D))
