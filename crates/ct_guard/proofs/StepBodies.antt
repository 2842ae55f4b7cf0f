-- The steps of the functions that look at the leaves of a step. f gives the bytes of a leaf.
use Rattle.std.proofs.Common.{refl, inl, inr, ◌≡◌, ℕ, ◌+◌, ◌-◌, ◌<◌, ◌≤◌, sym, ◌∙◌, ap, arith, false, nat_eq, List}
use Rattle.std.proofs.Common.{[], ◌∷◌, length, length-drop, take, drop, map, get_or, subst}
use Rattle.std.proofs.Common.{Option, Some, None}
use Rattle.std.proofs.lemmas.Bool.{both_ways}
use Rattle.std.proofs.lemmas.List.{at_drop_more, length-map, nil_from_length, take-map, drop-map}
use Rattle.ct_tree.specs.Tree.{split, hash_leaf, hash_node, mth_of_leaves}
use Rattle.ct_tree.specs.declared.head.Head.{Head}
use Rattle.ct_verify.proofs.Shown.{leaves_one, leaves_split}
use Rattle.ct_guard.specs.Guarded.{IsLeafOf}
use Rattle.ct_guard.specs.declared.refusal.ReceiptRefusal.{ReceiptRefusal}
use Rattle.ct_guard.specs.StepReceipts.{node_of, root_after, AreLeavesOf, StopsLeaf, StopsLeaves}
use Rattle.ct_guard.proofs.StepReceipts.{after_none, after_low, after_no_first, after_first}

-- ---- leaves one after the other
pub none_left : {X : Type 0} (f : X → List ℕ) (last : Head) (m : ℕ) (leaves : List X) → leaves ≡ []
    → AreLeavesOf last m (map f leaves)
unfolding AreLeavesOf
none_left f last m leaves e = rw e tt

module _ {X : Type 0} (f : X → List ℕ) (last : Head) (m : ℕ) (x : X) (rest leaves : List X)
    (e : leaves ≡ x ∷ rest) where
  pub first_and_rest : IsLeafOf last (f x) m → AreLeavesOf last (m + 1) (map f rest) → AreLeavesOf last m (map f leaves)
  unfolding AreLeavesOf
  first_and_rest a b = rw e (a, b)

  pub stops_first : (r : ReceiptRefusal) → StopsLeaf last (f x) m r → StopsLeaves last m (map f leaves) r
  unfolding StopsLeaves
  stops_first r s = rw e (inl s)

  pub stops_later : (r : ReceiptRefusal) → IsLeafOf last (f x) m → StopsLeaves last (m + 1) (map f rest) r
      → StopsLeaves last m (map f leaves) r
  unfolding StopsLeaves
  stops_later r a s = rw e (inr (a, s))

-- the leaves from a place on, whose indexes begin with m
module _ {X : Type 0} (f : X → List ℕ) (last : Head) (m : ℕ) (leaves : List X) (i : ℕ) (d : X) (below : i < length leaves) where
  cut : drop i leaves ≡ get_or leaves i d ∷ drop (i + 1) leaves
  cut = at_drop_more (λ l. l) leaves i d below

  next : m + (i + 1) ≡ m + i + 1
  next = omega arith

  pub passes_at : IsLeafOf last (f (get_or leaves i d)) (m + i) → AreLeavesOf last (m + (i + 1)) (map f (drop (i + 1) leaves))
      → AreLeavesOf last (m + i) (map f (drop i leaves))
  passes_at a b =
      first_and_rest f last (m + i) (get_or leaves i d) (drop (i + 1) leaves) (drop i leaves) cut a
      (subst (λ (k : ℕ). AreLeavesOf last k (map f (drop (i + 1) leaves))) next b)

  pub stops_at : (r : ReceiptRefusal) → StopsLeaf last (f (get_or leaves i d)) (m + i) r → StopsLeaves last (m + i) (map f (drop i leaves)) r
  stops_at r s = stops_first f last (m + i) (get_or leaves i d) (drop (i + 1) leaves) (drop i leaves) cut r s

  pub stops_after : (r : ReceiptRefusal) → IsLeafOf last (f (get_or leaves i d)) (m + i)
      → StopsLeaves last (m + (i + 1)) (map f (drop (i + 1) leaves)) r → StopsLeaves last (m + i) (map f (drop i leaves)) r
  stops_after r a s =
      stops_later f last (m + i) (get_or leaves i d) (drop (i + 1) leaves) (drop i leaves) cut r a
      (subst (λ (k : ℕ). StopsLeaves last k (map f (drop (i + 1) leaves)) r) next s)

pub none_after : {X : Type 0} (f : X → List ℕ) (last : Head) (m : ℕ) (leaves : List X) (i : ℕ) → length leaves ≤ i
    → AreLeavesOf last (m + i) (map f (drop i leaves))
none_after f last m leaves i end = none_left f last (m + i) (drop i leaves) (nil_from_length (drop i leaves) (omega (arith, length-drop i leaves, end)))

-- ---- the root of some leaves
pub root_of_one : {X : Type 0} (H : List ℕ → List ℕ) (f : X → List ℕ) (leaves : List X) (d : X) → length leaves ≡ 1
    → hash_leaf H (f (get_or leaves 0 d)) ≡ mth_of_leaves H (map f leaves)
root_of_one H f [] d l = absurd (omega (arith, l))
root_of_one H f (y ∷ []) d l = sym (leaves_one H (f y))
root_of_one H f (y ∷ z ∷ leaves) d l = absurd (omega (arith, l))

module _ {X : Type 0} (H : List ℕ → List ℕ) (f : X → List ℕ) (leaves low high : List X) where
  pub root_of_both : (k : ℕ) (a b r : List ℕ) → 1 < length leaves → k ≡ split (length leaves) → low ≡ take k leaves
      → high ≡ drop k leaves
      → a ≡ mth_of_leaves H (map f low) → b ≡ mth_of_leaves H (map f high) → r ≡ hash_node H a b → r ≡ mth_of_leaves
      H (map f leaves)
  root_of_both k a b r more s l h ea eb er =
      let n : length (map f leaves) ≡ length leaves = length-map leaves f in
      let z = sym (leaves_split H (map f leaves) k (omega (arith, n, more)) (ap split n ∙ sym s)) in
      er ∙ rw (ea, eb, l, h) (rw (take-map f k leaves, drop-map f k leaves) at z)

-- ---- the root of a step's tree
pub nothing_before : (H : List ℕ → List ℕ) (m : ℕ) (q E : List (List ℕ)) (r : List ℕ) → m ≡ 0 → length q ≡ 0
    → r ≡ mth_of_leaves H E → Some r ≡ root_after H m q E
nothing_before H m [] E r z l e = ap Some e ∙ sym (after_none H m [] E z)
nothing_before H m (x ∷ q) E r z l e = absurd (omega (arith, l))

pub something_before : (H : List ℕ → List ℕ) (m : ℕ) (q E : List (List ℕ)) → m ≡ 0 → nat_eq (length q) 0 ≡ false
    → None ≡ root_after H m q E
something_before H m [] E z n = absurd (both_ways (nat_eq 0 0) n refl)
something_before H m (x ∷ q) E z n = sym (after_none H m (x ∷ q) E z)

module _ {X : Type 0} (H : List ℕ → List ℕ) (f : X → List ℕ) (m k : ℕ) (q : List (List ℕ)) (leaves : List X)
    (some : 0 < length leaves) (z : 0 < m)
    (s : k ≡ split (m + length leaves)) where
  size : length (map f leaves) ≡ length leaves
  size = length-map leaves f

  is_split : split (m + length (map f leaves)) ≡ k
  is_split = ap (λ n. split (m + n)) size ∙ sym s

  has_some : 0 < length (map f leaves)
  has_some = omega (arith, size, some)

  low_root : (low high : List X) → m < k → low ≡ take (k - m) leaves → high ≡ drop (k - m) leaves
      → root_after H m q (map f leaves) ≡ node_of H (root_after H m q (map f low)) (Some (mth_of_leaves H (map f high)))
  low_root low high below l h =
      let e = after_low H m k q (map f leaves) has_some z below is_split in
      rw (l, h) (rw (take-map f (k - m) leaves, drop-map f (k - m) leaves) at e)

  pub low_none : (low high : List X) (o : Option (List ℕ)) → m < k → low ≡ take (k - m) leaves
      → high ≡ drop (k - m) leaves → o ≡ root_after H m q (map f low) → o ≡ None
      → None ≡ root_after H m q (map f leaves)
  low_none low high o below l h e none =
      sym (low_root low high below l h ∙ ap (λ u. node_of H u (Some (mth_of_leaves H (map f high)))) (sym e ∙ none))

  pub low_some : (low high : List X) (o : Option (List ℕ)) (x y r : List ℕ) → m < k → low ≡ take (k - m) leaves
      → high ≡ drop (k - m) leaves
      → o ≡ root_after H m q (map f low) → o ≡ Some x → y ≡ mth_of_leaves H (map f high) → r ≡ hash_node H x y → Some
      r ≡ root_after H m q (map f leaves)
  low_some low high o x y r below l h e found ey er =
      ap Some (er ∙ ap (hash_node H x) ey)
      ∙ sym (low_root low high below l h ∙ ap (λ u. node_of H u (Some (mth_of_leaves H (map f high)))) (sym e ∙ found))

  pub no_subtree : k ≤ m → q ≡ [] → None ≡ root_after H m q (map f leaves)
  no_subtree high e = rw e (sym (after_no_first H m k (map f leaves) has_some z high is_split))

  high_root : (x : List ℕ) (rest : List (List ℕ)) → k ≤ m → q ≡ x ∷ rest
      → root_after H m q (map f leaves) ≡ node_of H (Some x) (root_after H (m - k) rest (map f leaves))
  high_root x rest high e = rw e (after_first H m k x rest (map f leaves) has_some z high is_split)

  pub high_none : (x : List ℕ) (rest : List (List ℕ)) (o : Option (List ℕ)) → k ≤ m → q ≡ x ∷ rest
      → o ≡ root_after H (m - k) rest (map f leaves) → o ≡ None
      → None ≡ root_after H m q (map f leaves)
  high_none x rest o high e eo none = sym (high_root x rest high e ∙ ap (node_of H (Some x)) (sym eo ∙ none))

  pub high_some : (x : List ℕ) (rest : List (List ℕ)) (o : Option (List ℕ)) (y r : List ℕ) → k ≤ m → q ≡ x ∷ rest
      → o ≡ root_after H (m - k) rest (map f leaves) → o ≡ Some y → r ≡ hash_node H x y → Some r ≡ root_after H m q
      (map f leaves)
  high_some x rest o y r high e eo found er = ap Some er ∙ sym
      (high_root x rest high e ∙ ap (node_of H (Some x)) (sym eo ∙ found))
