-- An accepted consistency proof of a subtree under the root of a list: the hash is that of the list's leaves, and the proof is SUBTREE_PROOF,
-- or two of the hashed strings collide. S is a property that these strings have.
use Rattle.std.proofs.Common.{refl, subst, ◌⊎◌, inl, inr, ⊎_elim, ◌≡◌, ℕ, ◌-◌, ◌<◌, ◌≤◌, sym, ◌∙◌, ap, arith, Bool, true, false, List, [], ◌∷◌, ◌++◌, length, take, drop, map, reverse, cond}
use Rattle.std.proofs.Common.{Some, length-drop}
use Rattle.std.specs.Prelude.{All, Contains}
use Rattle.std.proofs.lemmas.List.{length-map, length-take-le, take-map, drop-map, take_all, reverse-reverse}
use Rattle.std.proofs.lemmas.List.Elements.{All-head, All-tail, All-weaker, All-contains_itself}
use Rattle.ct_tree.proofs.Split.{split_is, split_pos, split_lt, split_half}
use Rattle.ct_tree.specs.Tree.{split, hash_leaf, hash_node, mth_of_leaves}
use Rattle.ct_verify.proofs.Agreeing.{left_nodes, right_nodes, all_reverse}
use Rattle.ct_verify.proofs.OlderTree.{HasTree}
use Rattle.ct_verify.proofs.Options.{none_some, same_some, mapped, reverse_last}
use Rattle.ct_verify.proofs.RebuildLaws.{first_root}
use Rattle.ct_verify.proofs.Shown.{leaves_length, leaves_split}
use Rattle.ct_verify.specs.Climb.{pair_left, pair_right}
use Rattle.ct_verify.specs.Hashed.{CollideAmong}
use Rattle.ct_verify.specs.Hashed.IsHashedIn.{node, left, right}
use Rattle.ct_verify.specs.Laws.{AreHashes}
use Rattle.ct_verify.specs.Rebuild.{same_pair}
use Rattle.ct_subtrees.specs.Hashed.{subtree_strings, subtree_strings_down}
use Rattle.ct_subtrees.specs.Meaning.{AcceptedSubtreeIsOfList, IsHashedInSubtreeCheck, IsSubtreeOfList}
use Rattle.ct_subtrees.specs.Roots.{subtree_down, subtree_roots}
use Rattle.ct_subtrees.specs.Subtrees.{IsSubtree, slice, subtree_subproof, is_whole}
use Rattle.ct_subtrees.proofs.Down.{pair_beyond, down-end, down-end_whole, down-whole, down-left, down-right, down-both}
use Rattle.ct_subtrees.proofs.HashedStrings.{strings_left, strings_right, strings_both}
use Rattle.ct_subtrees.proofs.Rebuilds.{slice_left, slice_right, slice_first}
use Rattle.ct_subtrees.proofs.Subproof.{subtree-whole, subtree-left, subtree-right, subtree-both}
use Rattle.ct_subtrees.proofs.Whole.{Part, all, first_part, second_part, both_parts, part, whole_is, subtree_right, subtree_both, subtree_first, first_ends}

module _ (H : List ℕ → List ℕ) where
  abbrev hashes_of : List (List ℕ) → List (List ℕ)
  hashes_of D = map (hash_leaf H) D

  -- MTH of more than k of the leaves
  first_leaves : (e k : ℕ) (D : List (List ℕ)) → split (length D) ≡ k → k < e → e < length D
      → mth_of_leaves H (take e D) ≡ hash_node H (mth_of_leaves H (take k D)) (mth_of_leaves H (take (e - k) (drop k D)))
  first_leaves e k D f high l =
      let n : length (hashes_of D) ≡ length D = length-map D (hash_leaf H) in
      let z = first_root H e k (hashes_of D) (ap split n ∙ f) high (omega arith) in
      rw (
        take-map (hash_leaf H) e D,
        take-map (hash_leaf H) k D,
        drop-map (hash_leaf H) k D,
        take-map (hash_leaf H) (e - k) (drop k D),
      ) at z

  -- ---- SUBTREE_SUBPROOF of leaves, read from its last element to its first
  proof_whole : (s e : ℕ) (D : List (List ℕ)) (b : Bool) → s < e → s ≡ 0 → e ≡ length D
      → reverse (subtree_subproof H s e (hashes_of D) b) ≡ cond b [] (mth_of_leaves H D ∷ [])
  proof_whole s e D b l z f =
      ap reverse (subtree-whole H s e (hashes_of D) b l z (f ∙ sym (length-map D (hash_leaf H)))) ∙ by_known b
    where
      by_known : (b : Bool) → reverse (cond b [] (mth_of_leaves H D ∷ [])) ≡ cond b [] (mth_of_leaves H D ∷ [])
      by_known true = refl
      by_known false = refl

  proof_left : (s e k : ℕ) (D : List (List ℕ)) (b : Bool) → s < e → e ≤ length D → 1 < length D → is_whole s e (length D) ≡ false
      → split (length D) ≡ k → e ≤ k
      → reverse (subtree_subproof H s e (hashes_of D) b) ≡ mth_of_leaves H (drop k D) ∷ reverse (subtree_subproof H s e (hashes_of (take k D)) b)
  proof_left s e k D b l i m w f low =
      let n : length (hashes_of D) ≡ length D = length-map D (hash_leaf H) in
      ap reverse (subtree-left H s e k (hashes_of D) b l (omega arith) (omega arith) (ap (is_whole s e) n ∙ w) (ap split n ∙ f) low)
      ∙ rw (take-map (hash_leaf H) k D, drop-map (hash_leaf H) k D) (reverse_last (subtree_subproof H s e (hashes_of (take k D)) b) (mth_of_leaves H (drop k D)))

  proof_right : (s e k : ℕ) (D : List (List ℕ)) (b : Bool) → s < e → e ≤ length D → 1 < length D → is_whole s e (length D) ≡ false
      → split (length D) ≡ k → k ≤ s
      → reverse (subtree_subproof H s e (hashes_of D) b)
      ≡ mth_of_leaves H (take k D) ∷ reverse (subtree_subproof H (s - k) (e - k) (hashes_of (drop k D)) b)
  proof_right s e k D b l i m w f high =
      let n : length (hashes_of D) ≡ length D = length-map D (hash_leaf H) in
      ap reverse (subtree-right H s e k (hashes_of D) b l (omega arith) (omega arith) (ap (is_whole s e) n ∙ w) (ap split n ∙ f) high)
      ∙ rw (take-map (hash_leaf H) k D, drop-map (hash_leaf H) k D)
      (reverse_last (subtree_subproof H (s - k) (e - k) (hashes_of (drop k D)) b) (mth_of_leaves H (take k D)))

  proof_both : (s e k : ℕ) (D : List (List ℕ)) (b : Bool) → s < e → e ≤ length D → 1 < length D → is_whole s e (length D) ≡ false
      → split (length D) ≡ k → s < k → k < e
      → reverse (subtree_subproof H s e (hashes_of D) b) ≡ mth_of_leaves H (take k D) ∷ reverse (subtree_subproof H 0 (e - k) (hashes_of (drop k D)) false)
  proof_both s e k D b l i m w f before over =
      let n : length (hashes_of D) ≡ length D = length-map D (hash_leaf H) in
      ap reverse (subtree-both H s e k (hashes_of D) b l (omega arith) (omega arith) (ap (is_whole s e) n ∙ w) (ap split n ∙ f) before over)
      ∙ rw (take-map (hash_leaf H) k D, drop-map (hash_leaf H) k D)
      (reverse_last (subtree_subproof H 0 (e - k) (hashes_of (drop k D)) false) (mth_of_leaves H (take k D)))

  pub one_pair : (c x y : List ℕ) (q : List (List ℕ)) → same_pair c q ≡ Some (x, y) → (x ≡ c) × (y ≡ c) × (q ≡ [])
  one_pair c x y [] f =
      let z : (c, c) ≡ (x, y) = same_some (c, c) (x, y) f in
      (sym (ap (λ (v : List ℕ × List ℕ). v.0) z), sym (ap (λ (v : List ℕ × List ℕ). v.1) z), refl)
  one_pair c x y (d ∷ q) f = absurd (none_some (x, y) f)

module _ (H : List ℕ → List ℕ) (hash_length : (x : List ℕ) → length (H x) ≡ 32) (S : List ℕ → Type 0) where
  -- the hash is that of the leaves, and the proof is theirs; or two of the strings collide
  abbrev Found : ℕ → ℕ → Bool → List (List ℕ) → List ℕ → List (List ℕ) → Type 0
  Found s e b D x q =
      ((x ≡ mth_of_leaves H (slice s e D)) × (q ≡ reverse (subtree_subproof H s e (map (hash_leaf H) D) b))) ⊎ CollideAmong H S

  abbrev Given : ℕ → ℕ → Bool → List ℕ → List ℕ → List (List ℕ) → List (List ℕ) → Type 0
  Given s e b r x D q =
      AreHashes q × IsSubtree s e × (e ≤ length D) × (subtree_down H s e (length D) b r q ≡ Some (x, mth_of_leaves H D))
      × All S (subtree_strings_down H s e (length D) b r q) × HasTree H hash_length S D

  abbrev Going : List (List ℕ) → Type 0
  Going q = (s e : ℕ) (b : Bool) (r x : List ℕ) (D : List (List ℕ)) → Given s e b r x D q → Found s e b D x q

  whole_tree : (q : List (List ℕ)) (s e : ℕ) (b : Bool) (r x : List ℕ) (D : List (List ℕ)) → s < e → s ≡ 0 → e ≡ length D
      → subtree_down H s e (length D) b r q ≡ Some (x, mth_of_leaves H D) → Found s e b D x q
  whole_tree q s e b r x D l z f d =
      let w = whole_is s e (length D) z (omega arith) in
      let i : slice s e D ≡ D = slice_first s e D z ∙ take_all e D (omega arith) in
      let own = by_known q b d w in
      inl (own.0 ∙ ap (mth_of_leaves H) (sym i), own.1 ∙ sym (proof_whole H s e D b l z f))
    where
      by_known : (q : List (List ℕ)) (b : Bool) → subtree_down H s e (length D) b r q ≡ Some (x, mth_of_leaves H D) → is_whole s e (length D) ≡ true
          → (x ≡ mth_of_leaves H D) × (q ≡ cond b [] (mth_of_leaves H D ∷ []))
      by_known [] true d w =
          let y : (r, r) ≡ (x, mth_of_leaves H D) = same_some (r, r) (x, mth_of_leaves H D) (sym (down-end_whole H s e (length D) true r w) ∙ d) in
          (sym (ap (λ (v : List ℕ × List ℕ). v.0) y) ∙ ap (λ (v : List ℕ × List ℕ). v.1) y, refl)
      by_known [] false d w = absurd (none_some (x, mth_of_leaves H D) (sym (down-end_whole H s e (length D) false r w) ∙ d))
      by_known (c ∷ q) true d w = absurd (none_some (x, mth_of_leaves H D) (sym (down-whole H s e (length D) true r c q w) ∙ d))
      by_known (c ∷ q) false d w =
          let y = one_pair H c x (mth_of_leaves H D) q (sym (down-whole H s e (length D) false r c q w) ∙ d) in
          (y.0 ∙ sym y.1, rw (y.2, sym y.1) refl)

  in_left : (c : List ℕ) (q : List (List ℕ)) → Going q → (s e : ℕ) (b : Bool) (r x : List ℕ) (D : List (List ℕ)) → Given s e b r x D (c ∷ q)
      → 1 < length D → is_whole s e (length D) ≡ false → e ≤ split (length D) → Found s e b D x (c ∷ q)
  in_left c q ih s e b r x D (hashes, t, i, d, strings, tree) m w low =
      let k = split (length D) in
      let below : k < length D = split_lt (length D) m in
      let j : length (take k D) ≡ k = length-take-le k D (omega arith) in
      let A = mth_of_leaves H (take k D) in
      let B = mth_of_leaves H (drop k D) in
      let u = mapped (λ z. pair_left H z c) (subtree_down H s e k b r q) (x, mth_of_leaves H D) (sym (down-left H s e (length D) k b r c q w refl low) ∙ d) in
      let own = subst (All S) (strings_left H s e (length D) k b r c u.0.0 u.0.1 q w refl low u.1) strings in
      let first : u.0.0 ≡ x = ap (λ (z : List ℕ × List ℕ). z.0) u.2 in
      let second : hash_node H u.0.1 c ≡ mth_of_leaves H D = ap (λ (z : List ℕ × List ℕ). z.1) u.2 in
      let long : length B ≡ 32 = leaves_length H hash_length (drop k D) (omega (arith, length-drop k D)) in
      ⊎_elim
      (λ (same : (u.0.1 ≡ A) × (c ≡ B)).
      ⊎_elim
      (λ (f : (u.0.0 ≡ mth_of_leaves H (slice s e (take k D))) × (q ≡ reverse (subtree_subproof H s e (map (hash_leaf H) (take k D)) b))).
      inl (
        sym first ∙ f.0 ∙ ap (mth_of_leaves H) (slice_left s e k D low),
        rw (same.1, f.1) (sym (proof_left H s e k D b t.0 i m w refl low)),
      ))
      (λ (pair : CollideAmong H S). inr pair)
      (ih s e b r u.0.0 (take k D) (
        All-tail (λ v. length v ≡ 32) c q hashes,
        t,
        omega arith,
        ap (λ n. subtree_down H s e n b r q) j ∙ u.1 ∙ ap (λ v. Some (u.0.0, v)) same.0,
        subst (λ n. All S (subtree_strings_down H s e n b r q)) (sym j) (All-tail S (1 ∷ u.0.1 ++ c) (subtree_strings_down H s e k b r q) own),
        λ z v. tree z (left D k z m refl v),
      )))
      (λ (pair : CollideAmong H S). inr pair)
      (right_nodes H S u.0.1 c A B (All-head (λ v. length v ≡ 32) c q hashes ∙ sym long) (All-head S (1 ∷ u.0.1 ++ c) (subtree_strings_down H s e k b r q) own)
      (tree (1 ∷ A ++ B) (node D k m refl)) (second ∙ leaves_split H D k m refl))

  in_right : (c : List ℕ) (q : List (List ℕ)) → Going q → (s e : ℕ) (b : Bool) (r x : List ℕ) (D : List (List ℕ)) → Given s e b r x D (c ∷ q)
      → 1 < length D → is_whole s e (length D) ≡ false → split (length D) ≤ s → Found s e b D x (c ∷ q)
  in_right c q ih s e b r x D (hashes, t, i, d, strings, tree) m w high =
      let k = split (length D) in
      let below : k < length D = split_lt (length D) m in
      let a : length (take k D) ≡ k = length-take-le k D (omega arith) in
      let j : length (drop k D) ≡ length D - k = length-drop k D in
      let A = mth_of_leaves H (take k D) in
      let B = mth_of_leaves H (drop k D) in
      let u = mapped (λ z. pair_beyond H z c) (subtree_down H (s - k) (e - k) (length D - k) b r q) (x, mth_of_leaves H D)
      (sym (down-right H s e (length D) k b r c q w refl high t.0) ∙ d) in
      let own = subst (All S) (strings_right H s e (length D) k b r c u.0.0 u.0.1 q w refl high t.0 u.1) strings in
      let first : u.0.0 ≡ x = ap (λ (z : List ℕ × List ℕ). z.0) u.2 in
      let second : hash_node H c u.0.1 ≡ mth_of_leaves H D = ap (λ (z : List ℕ × List ℕ). z.1) u.2 in
      let long : length A ≡ 32 = leaves_length H hash_length (take k D) (omega (arith, split_pos (length D) m)) in
      ⊎_elim
      (λ (same : (c ≡ A) × (u.0.1 ≡ B)).
      ⊎_elim
      (λ (f : (u.0.0 ≡ mth_of_leaves H (slice (s - k) (e - k) (drop k D)))
      × (q ≡ reverse (subtree_subproof H (s - k) (e - k) (map (hash_leaf H) (drop k D)) b))).
      inl (
        sym first ∙ f.0 ∙ ap (mth_of_leaves H) (slice_right s e k D high t.0),
        rw (same.0, f.1) (sym (proof_right H s e k D b t.0 i m w refl high)),
      ))
      (λ (pair : CollideAmong H S). inr pair)
      (ih (s - k) (e - k) b r u.0.0 (drop k D) (
        All-tail (λ v. length v ≡ 32) c q hashes,
        subtree_right s e k t (split_is (length D) m).power high (omega (arith, t.0, split_half (length D) m)),
        omega arith,
        ap (λ n. subtree_down H (s - k) (e - k) n b r q) j ∙ u.1 ∙ ap (λ v. Some (u.0.0, v)) same.1,
        subst (λ n. All S (subtree_strings_down H (s - k) (e - k) n b r q)) (sym j)
            (All-tail S (1 ∷ c ++ u.0.1) (subtree_strings_down H (s - k) (e - k) (length D - k) b r q) own),
        λ z v. tree z (right D k z m refl v),
      )))
      (λ (pair : CollideAmong H S). inr pair)
      (left_nodes H S c u.0.1 A B (All-head (λ v. length v ≡ 32) c q hashes ∙ sym long)
      (All-head S (1 ∷ c ++ u.0.1) (subtree_strings_down H (s - k) (e - k) (length D - k) b r q) own) (tree (1 ∷ A ++ B) (node D k m refl))
      (second ∙ leaves_split H D k m refl))

  in_both : (c : List ℕ) (q : List (List ℕ)) → Going q → (s e : ℕ) (b : Bool) (r x : List ℕ) (D : List (List ℕ)) → Given s e b r x D (c ∷ q)
      → 1 < length D → is_whole s e (length D) ≡ false → s < split (length D) → split (length D) < e → Found s e b D x (c ∷ q)
  in_both c q ih s e b r x D (hashes, t, i, d, strings, tree) m w before over =
      let k = split (length D) in
      let below : k < length D = split_lt (length D) m in
      let a : length (take k D) ≡ k = length-take-le k D (omega arith) in
      let j : length (drop k D) ≡ length D - k = length-drop k D in
      let A = mth_of_leaves H (take k D) in
      let B = mth_of_leaves H (drop k D) in
      let z : s ≡ 0 = subtree_both s e k t (split_is (length D) m).power before over in
      let u = mapped (λ z. pair_right H z c) (subtree_down H 0 (e - k) (length D - k) false r q) (x, mth_of_leaves H D)
      (sym (down-both H s e (length D) k b r c q w refl before over) ∙ d) in
      let own = subst (All S) (strings_both H s e (length D) k b r c u.0.0 u.0.1 q w refl before over u.1) strings in
      let rest = All-tail S (1 ∷ c ++ u.0.0) ((1 ∷ c ++ u.0.1) ∷ subtree_strings_down H 0 (e - k) (length D - k) false r q) own in
      let first : hash_node H c u.0.0 ≡ x = ap (λ (z : List ℕ × List ℕ). z.0) u.2 in
      let second : hash_node H c u.0.1 ≡ mth_of_leaves H D = ap (λ (z : List ℕ × List ℕ). z.1) u.2 in
      let long : length A ≡ 32 = leaves_length H hash_length (take k D) (omega (arith, split_pos (length D) m)) in
      ⊎_elim
      (λ (same : (c ≡ A) × (u.0.1 ≡ B)).
      ⊎_elim
      (λ (f : (u.0.0 ≡ mth_of_leaves H (slice 0 (e - k) (drop k D))) × (q ≡ reverse (subtree_subproof H 0 (e - k) (map (hash_leaf H) (drop k D)) false))).
      inl (
        sym first ∙ ap (λ v. hash_node H v u.0.0) same.0 ∙ ap (λ v. hash_node H A v) f.0 ∙ sym (first_leaves H e k D refl over (first_ends s e (length D) z w))
            ∙ ap (mth_of_leaves H) (sym (slice_first s e D z)),
        rw (same.0, f.1) (sym (proof_both H s e k D b t.0 i m w refl before over)),
      ))
      (λ (pair : CollideAmong H S). inr pair)
      (ih 0 (e - k) false r u.0.0 (drop k D) (
        All-tail (λ v. length v ≡ 32) c q hashes,
        subtree_first (e - k) (omega arith),
        omega arith,
        ap (λ n. subtree_down H 0 (e - k) n false r q) j ∙ u.1 ∙ ap (λ v. Some (u.0.0, v)) same.1,
        subst (λ n. All S (subtree_strings_down H 0 (e - k) n false r q)) (sym j)
            (All-tail S (1 ∷ c ++ u.0.1) (subtree_strings_down H 0 (e - k) (length D - k) false r q) rest),
        λ z v. tree z (right D k z m refl v),
      )))
      (λ (pair : CollideAmong H S). inr pair)
      (left_nodes H S c u.0.1 A B (All-head (λ v. length v ≡ 32) c q hashes ∙ sym long)
      (All-head S (1 ∷ c ++ u.0.1) (subtree_strings_down H 0 (e - k) (length D - k) false r q) rest) (tree (1 ∷ A ++ B) (node D k m refl))
      (second ∙ leaves_split H D k m refl))

  no_more : (s e : ℕ) (b : Bool) (r x : List ℕ) (D : List (List ℕ)) → Given s e b r x D [] → Part s e (length D) → Found s e b D x []
  no_more s e b r x D (hashes, t, i, d, strings, tree) (all z f) = whole_tree [] s e b r x D t.0 z f d
  no_more s e b r x D (hashes, t, i, d, strings, tree) (first_part m w low) =
      absurd (none_some (x, mth_of_leaves H D) (sym (down-end H s e (length D) b r w) ∙ d))
  no_more s e b r x D (hashes, t, i, d, strings, tree) (second_part m w high) =
      absurd (none_some (x, mth_of_leaves H D) (sym (down-end H s e (length D) b r w) ∙ d))
  no_more s e b r x D (hashes, t, i, d, strings, tree) (both_parts m w before over) =
      absurd (none_some (x, mth_of_leaves H D) (sym (down-end H s e (length D) b r w) ∙ d))

  one_more : (c : List ℕ) (q : List (List ℕ)) → Going q → (s e : ℕ) (b : Bool) (r x : List ℕ) (D : List (List ℕ)) → Given s e b r x D (c ∷ q)
      → Part s e (length D) → Found s e b D x (c ∷ q)
  one_more c q ih s e b r x D g (all z f) = whole_tree (c ∷ q) s e b r x D g.1.0 z f g.3
  one_more c q ih s e b r x D g (first_part m w low) = in_left c q ih s e b r x D g m w low
  one_more c q ih s e b r x D g (second_part m w high) = in_right c q ih s e b r x D g m w high
  one_more c q ih s e b r x D g (both_parts m w before over) = in_both c q ih s e b r x D g m w before over

  goes : (q : List (List ℕ)) → Going q
  goes [] s e b r x D g = no_more s e b r x D g (part s e (length D) g.1.0 g.2)
  goes (c ∷ q) s e b r x D g = one_more c q (goes q) s e b r x D g (part s e (length D) g.1.0 g.2)

  -- the same, for a proof in its own order
  pub of_list : (s e : ℕ) (x : List ℕ) (D p : List (List ℕ)) → AreHashes p → IsSubtree s e → e ≤ length D
      → subtree_roots H s e (length D) true x p ≡ Some (x, mth_of_leaves H D) → All S (subtree_strings H s e (length D) true x p)
      → HasTree H hash_length S D → IsSubtreeOfList H s e x D p ⊎ CollideAmong H S
  unfolding subtree_roots subtree_strings
  of_list s e x D p hashes t i d strings tree =
      let own = subtree_subproof H s e (map (hash_leaf H) D) true in
      ⊎_elim
      (λ (f : (x ≡ mth_of_leaves H (slice s e D)) × (reverse p ≡ reverse own)).
      inl (f.0, sym (reverse-reverse p) ∙ ap reverse f.1 ∙ reverse-reverse own))
      (λ (pair : CollideAmong H S). inr pair)
      (goes (reverse p) s e true x x D (all_reverse (λ v. length v ≡ 32) p hashes, t, i, d, strings, tree))

pub accepted_subtree_is_of_list : AcceptedSubtreeIsOfList
accepted_subtree_is_of_list H hash_length D s e x p hashes accepted =
    let strings = subtree_strings H s e (length D) true x p in
    let S = IsHashedInSubtreeCheck H s e x D p in
    of_list H hash_length S s e x D p hashes accepted.0.0 accepted.0.1 accepted.1
    (All-weaker (Contains strings) S (λ t c. inl c) strings (All-contains_itself strings)) (λ t w. inr w)
