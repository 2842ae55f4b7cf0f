-- The root of a step's tree, and what its leaves are.
use Rattle.std.proofs.Common.{refl, ◌⊎◌, inl, inr, ⊎_elim, ◌≡◌, ℕ, zero, suc, ◌+◌, ◌-◌, ◌<◌, ◌≤◌, sym, ◌∙◌, ap, arith}
use Rattle.std.proofs.Common.{List, [], ◌∷◌, ◌++◌, length, take, drop}
use Rattle.std.proofs.Common.{Option, Some, None, length-drop}
use Rattle.std.proofs.lemmas.Bool.{cases_lt, lt-ltb, le-ltb}
use Rattle.std.proofs.lemmas.List.{length-take-le, take-append-drop, drop-append-le, drop-drop}
use Rattle.std.proofs.lemmas.List.Elements.{All-head, All-tail}
use Rattle.ct_tree.proofs.Split.{split_pos, split_lt, split_induct}
use Rattle.ct_tree.specs.Tree.{split, hash_node, mth_of_leaves}
use Rattle.ct_verify.proofs.Options.{none_some, same_some}
use Rattle.ct_verify.proofs.Shown.{leaves_length, leaves_split}
use Rattle.ct_verify.specs.Laws.{AreHashes}
use Rattle.ct_verify.proofs.Agreeing.{left_nodes, right_nodes}
use Rattle.ct_verify.proofs.ListProofs.{same_lists}
use Rattle.ct_verify.proofs.OlderTree.{HasTree}
use Rattle.ct_verify.specs.Hashed.{CollideAmong, IsHashedIn}
use Rattle.ct_verify.specs.Hashed.IsHashedIn.{node, left, right}
use Rattle.ct_guard.specs.StepReceipts.{node_of, with_first, whole_root, root_within, root_after}
use Rattle.ct_guard.specs.StepReceipts.{IsHashedAfter, StepReceiptsStand}
use Rattle.ct_guard.specs.StepReceipts.IsHashedAfter.{whole, left_node, in_left, in_right, right_node}
use Rattle.ct_guard.specs.StepReceipts.IsHashedAfter.{after_left}

-- ---- the recursion without its bound
module _ (H : List ℕ → List ℕ) where
  none_within : (d m : ℕ) (q E : List (List ℕ)) → m ≡ 0 → root_within H d m q E ≡ whole_root H q E
  unfolding root_within
  none_within zero m q E e = refl
  none_within (suc d) m q E e = rw e refl

  left_within : (d m k : ℕ) (q E : List (List ℕ)) → 0 < m → m < k → split (m + length E) ≡ k
      → root_within H (suc d) m q E ≡ node_of H (root_within H d m q (take (k - m) E))
      (Some (mth_of_leaves H (drop (k - m) E)))
  unfolding root_within
  left_within d m k q E z low e = rw (e, lt-ltb 0 m z, lt-ltb m k low) refl

  right_within : (d m k : ℕ) (q E : List (List ℕ)) → 0 < m → k ≤ m → split (m + length E) ≡ k
      → root_within H (suc d) m q E ≡ with_first q (λ x rest. node_of H (Some x) (root_within H d (m - k) rest E))
  unfolding root_within
  right_within d m k q E z high e = rw (e, lt-ltb 0 m z, le-ltb m k high) refl

  firsts : (q : List (List ℕ)) (f g : List ℕ → List (List ℕ) → Option (List ℕ))
      → ((x : List ℕ) (rest : List (List ℕ)) → f x rest ≡ g x rest)
      → with_first q f ≡ with_first q g
  firsts [] f g same = refl
  firsts (x ∷ q) f g same = same x q

  enough : (d e m : ℕ) (q E : List (List ℕ)) → 0 < length E → m + length E ≤ d → m + length E ≤ e
      → root_within H d m q E ≡ root_within H e m q E
  enough zero e m q E some a b = absurd (omega (arith, some, a))
  enough (suc d) zero m q E some a b = absurd (omega (arith, some, b))
  enough (suc d) (suc e) m q E some a b =
      ⊎_elim
      (λ (z : 0 < m).
      let n = m + length E in
      let k = split n in
      let more : 1 < n = omega (arith, z, some) in
      let inside : k < n = split_lt n more in
      let positive : 0 < k = split_pos n more in
      ⊎_elim
      (λ (low : m < k).
      let t : length (take (k - m) E) ≡ k - m = length-take-le (k - m) E (omega (arith, inside)) in
      left_within d m k q E z low refl
      ∙ ap (λ r. node_of H r (Some (mth_of_leaves H (drop (k - m) E))))
      (enough d e m q (take (k - m) E) (omega (arith, t, low)) (omega (arith, t, low, inside, a))
      (omega (arith, t, low, inside, b)))
      ∙ sym (left_within e m k q E z low refl))
      (λ (high : k ≤ m).
      right_within d m k q E z high refl
      ∙ firsts q (λ x rest. node_of H (Some x) (root_within H d (m - k) rest E))
      (λ x rest. node_of H (Some x) (root_within H e (m - k) rest E))
      (λ x rest. ap (node_of H (Some x)) (enough d e (m - k) rest E some (omega (arith, positive, high, a))
      (omega (arith, positive, high, b))))
      ∙ sym (right_within e m k q E z high refl))
      (cases_lt m k))
      (λ (z : m ≤ 0). none_within (suc d) m q E (omega (arith, z)) ∙ sym (none_within (suc e) m q E (omega (arith, z))))
      (cases_lt 0 m)

  pub after_none : (m : ℕ) (q E : List (List ℕ)) → m ≡ 0 → root_after H m q E ≡ whole_root H q E
  unfolding root_after
  after_none m q E e = none_within (m + length E) m q E e

  pub after_low : (m k : ℕ) (q E : List (List ℕ)) → 0 < length E → 0 < m → m < k → split (m + length E) ≡ k
      → root_after H m q E ≡ node_of H (root_after H m q (take (k - m) E)) (Some (mth_of_leaves H (drop (k - m) E)))
  unfolding root_after
  after_low m k q E some z low e =
      let n = m + length E in
      let more : 1 < n = omega (arith, z, some) in
      let inside : k < n = omega (arith, e, split_lt n more) in
      let t : length (take (k - m) E) ≡ k - m = length-take-le (k - m) E (omega (arith, inside)) in
      enough n (suc n) m q E some (omega arith) (omega arith)
      ∙ left_within n m k q E z low e
      ∙ ap (λ r. node_of H r (Some (mth_of_leaves H (drop (k - m) E))))
      (enough n (m + length (take (k - m) E)) m q (take (k - m) E) (omega (arith, t, low))
      (omega (arith, t, low, inside)) (omega arith))

  after_high : (m k : ℕ) (q E : List (List ℕ)) → 0 < length E → 0 < m → k ≤ m → split (m + length E) ≡ k
      → root_after H m q E ≡ with_first q (λ x rest. node_of H (Some x) (root_after H (m - k) rest E))
  unfolding root_after
  after_high m k q E some z high e =
      let n = m + length E in
      let more : 1 < n = omega (arith, z, some) in
      let positive : 0 < k = omega (arith, e, split_pos n more) in
      enough n (suc n) m q E some (omega arith) (omega arith)
      ∙ right_within n m k q E z high e
      ∙ firsts q (λ x rest. node_of H (Some x) (root_within H n (m - k) rest E))
      (λ x rest. node_of H (Some x) (root_within H (m - k + length E) (m - k) rest E))
      (λ x rest. ap (node_of H (Some x)) (enough n (m - k + length E) (m - k) rest E some
      (omega (arith, positive, high)) (omega arith)))

  pub after_no_first : (m k : ℕ) (E : List (List ℕ)) → 0 < length E → 0 < m → k ≤ m → split (m + length E) ≡ k
      → root_after H m [] E ≡ None
  after_no_first m k E some z high e = after_high m k [] E some z high e

  pub after_first : (m k : ℕ) (x : List ℕ) (q E : List (List ℕ)) → 0 < length E → 0 < m → k ≤ m
      → split (m + length E) ≡ k
      → root_after H m (x ∷ q) E ≡ node_of H (Some x) (root_after H (m - k) q E)
  after_first m k x q E some z high e = after_high m k (x ∷ q) E some z high e

-- ---- what a node's hash shows of its parts
left_part : (H : List ℕ → List ℕ) (o : Option (List ℕ)) (y r : List ℕ) → node_of H o (Some y) ≡ Some r
    → (x : List ℕ) × (o ≡ Some x) × (hash_node H x y ≡ r)
left_part H None y r e = absurd (none_some r e)
left_part H (Some x) y r e = (x, refl, same_some (hash_node H x y) r e)

right_part : (H : List ℕ → List ℕ) (x : List ℕ) (o : Option (List ℕ)) (r : List ℕ) → node_of H (Some x) o ≡ Some r
    → (y : List ℕ) × (o ≡ Some y) × (hash_node H x y ≡ r)
right_part H x None r e = absurd (none_some r e)
right_part H x (Some y) r e = (y, refl, same_some (hash_node H x y) r e)

-- ---- the leaves of a step
module _ (H : List ℕ → List ℕ) (hash_length : (x : List ℕ) → length (H x) ≡ 32) (S : List ℕ → Type 0) where
  abbrev Goes : ℕ → ℕ → Type 0
  Goes n m =
      (q E D : List (List ℕ)) → m + length E ≡ n → length D ≡ n → 0 < length E → AreHashes q → root_after H m q E
      ≡ Some (mth_of_leaves H D)
      → ((s : List ℕ) → IsHashedAfter H m q E s → S s) → HasTree H hash_length S D → (E ≡ drop m D) ⊎ CollideAmong H S

  at_none : (n : ℕ) → Goes n 0
  at_none n [] E D a b some hashes e strings tree =
      same_lists H hash_length S n E D (omega (arith, a)) b
      (same_some (mth_of_leaves H E) (mth_of_leaves H D) (sym (after_none H 0 [] E refl) ∙ e))
      (λ s w. strings s (whole E s w)) tree
  at_none n (x ∷ q) E D a b some hashes e strings tree = absurd
      (none_some (mth_of_leaves H D) (sym (after_none H 0 (x ∷ q) E refl) ∙ e))

  by_size : (n : ℕ) → ((m : ℕ) → 0 < m → Goes n m) → (m : ℕ) → Goes n m
  by_size n f zero = at_none n
  by_size n f (suc m) = f (suc m) (omega arith)

  at_low : (n m : ℕ) → 0 < m → m < split n → Goes (split n) m → Goes n m
  at_low n m z low below q E D a b some hashes e strings tree =
      let k = split n in
      let more : 1 < n = omega (arith, a, z, some) in
      let inside : k < n = split_lt n more in
      let g : split (m + length E) ≡ k = ap split a in
      let h : k ≡ split (length D) = ap split (sym b) in
      let many : 1 < length D = omega (arith, b, more) in
      let t : length (take (k - m) E) ≡ k - m = length-take-le (k - m) E (omega (arith, a, inside)) in
      let d : length (drop (k - m) E) ≡ n - k = omega (arith, length-drop (k - m) E, a, low) in
      let tD : length (take k D) ≡ k = length-take-le k D (omega (arith, b, inside)) in
      let dD : length (drop k D) ≡ n - k = omega (arith, length-drop k D, b) in
      let B = mth_of_leaves H (drop (k - m) E) in
      let C = mth_of_leaves H (take k D) in
      let F = mth_of_leaves H (drop k D) in
      let lB : length B ≡ 32 = leaves_length H hash_length (drop (k - m) E) (omega (arith, d, inside)) in
      let lF : length F ≡ 32 = leaves_length H hash_length (drop k D) (omega (arith, dD, inside)) in
      let u = left_part H (root_after H m q (take (k - m) E)) B (mth_of_leaves H D)
      (sym (after_low H m k q E some z low g) ∙ e) in
      ⊎_elim
      (λ (same : (u.0 ≡ C) × (B ≡ F)).
      ⊎_elim
      (λ (l : take (k - m) E ≡ drop m (take k D)).
      ⊎_elim
      (λ (r : drop (k - m) E ≡ drop k D).
      inl (sym (take-append-drop (k - m) E) ∙ rw (l, r) (sym
      (drop-append-le m (take k D) (drop k D) (omega (arith, tD, low)))) ∙ ap (drop m) (take-append-drop k D)))
      (λ (pair : CollideAmong H S). inr pair)
      (same_lists H hash_length S (n - k) (drop (k - m) E) (drop k D) d dD same.1
      (λ s w. strings s (in_right m q E k s z low (sym g) w))
      (λ s w. tree s (right D k s many h w))))
      (λ (pair : CollideAmong H S). inr pair)
      (below q (take (k - m) E) (take k D) (omega (arith, t, low)) tD (omega (arith, t, low)) hashes
      (u.1 ∙ ap Some same.0)
      (λ s w. strings s (in_left m q E k s z low (sym g) w)) (λ s w. tree s (left D k s many h w))))
      (λ (pair : CollideAmong H S). inr pair)
      (right_nodes H S u.0 B C F (lB ∙ sym lF) (strings (1 ∷ u.0 ++ B) (left_node m q E k u.0 z low (sym g) u.1))
      (tree (1 ∷ C ++ F) (node D k many h))
      (u.2 ∙ leaves_split H D k many (sym h)))

  at_high : (n m : ℕ) → 0 < m → split n ≤ m → Goes (n - split n) (m - split n) → Goes n m
  at_high n m z high below [] E D a b some hashes e strings tree =
      absurd (none_some (mth_of_leaves H D) (sym (after_no_first H m (split n) E some z high (ap split a)) ∙ e))
  at_high n m z high below (x ∷ q) E D a b some hashes e strings tree =
      let k = split n in
      let more : 1 < n = omega (arith, a, z, some) in
      let inside : k < n = split_lt n more in
      let positive : 0 < k = split_pos n more in
      let g : split (m + length E) ≡ k = ap split a in
      let h : k ≡ split (length D) = ap split (sym b) in
      let many : 1 < length D = omega (arith, b, more) in
      let tD : length (take k D) ≡ k = length-take-le k D (omega (arith, b, inside)) in
      let dD : length (drop k D) ≡ n - k = omega (arith, length-drop k D, b) in
      let A = mth_of_leaves H (take k D) in
      let B = mth_of_leaves H (drop k D) in
      let lA : length A ≡ 32 = leaves_length H hash_length (take k D) (omega (arith, tD, positive)) in
      let lx : length x ≡ 32 = All-head (λ s. length s ≡ 32) x q hashes in
      let u = right_part H x (root_after H (m - k) q E) (mth_of_leaves H D)
      (sym (after_first H m k x q E some z high g) ∙ e) in
      ⊎_elim
      (λ (same : (x ≡ A) × (u.0 ≡ B)).
      ⊎_elim
      (λ (l : E ≡ drop (m - k) (drop k D)).
      let j : k + (m - k) ≡ m = omega (arith, high) in
      inl (l ∙ drop-drop (m - k) k D ∙ ap (λ i. drop i D) j))
      (λ (pair : CollideAmong H S). inr pair)
      (below q E (drop k D) (omega (arith, a, high)) dD some (All-tail (λ s. length s ≡ 32) x q hashes)
      (u.1 ∙ ap Some same.1)
      (λ s w. strings s (after_left m x q E k s high (sym g) w)) (λ s w. tree s (right D k s many h w))))
      (λ (pair : CollideAmong H S). inr pair)
      (left_nodes H S x u.0 A B (lx ∙ sym lA) (strings (1 ∷ x ++ u.0) (right_node m x q E k u.0 high (sym g) u.1))
      (tree (1 ∷ A ++ B) (node D k many h))
      (u.2 ∙ leaves_split H D k many (sym h)))

  goes : (n m : ℕ) → Goes n m
  goes =
      split_induct (λ n. (m : ℕ) → Goes n m)
      (λ m q E D a b some hashes e strings tree. absurd (omega (arith, a, some)))
      (by_size 1 (λ m z q E D a b some hashes e strings tree. absurd (omega (arith, a, z, some))))
      (λ n more below_left below_right.
      by_size n (λ m z.
      ⊎_elim
      (λ (low : m < split n). at_low n m z low (below_left m))
      (λ (high : split n ≤ m). at_high n m z high (below_right (m - split n)))
      (cases_lt m (split n))))

pub step_receipts_stand : StepReceiptsStand
step_receipts_stand H hash_length last D m q E head hashes passes =
    goes H hash_length (λ s. IsHashedAfter H m q E s ⊎ IsHashedIn H D s) (length D) m q E D (passes.0.1 ∙ head.0)
    refl passes.0.0 hashes
    (passes.1 ∙ ap Some head.1) (λ s w. inl w) (λ s w. inr w)
