-- An accepted consistency proof whose second root is that of a list: the first root is that of a prefix of the list, or two of the hashed
-- strings collide. Nothing is required of the first root. S is a property that these strings have.
use Rattle.std.proofs.Common.{refl, subst, ◌⊎◌, inl, inr, ⊎_elim, ◌≡◌, ℕ, ◌-◌, ◌<◌, ◌≤◌, sym, ◌∙◌, ap, arith, Bool, true, false, List, [], ◌∷◌, ◌++◌, length, take, drop, map, reverse}
use Rattle.std.proofs.Common.{Some, length-drop}
use Rattle.std.specs.Prelude.{All, Contains}
use Rattle.std.proofs.lemmas.Bool.{cases_lt}
use Rattle.std.proofs.lemmas.List.{length-map, length-take-le, take-map, drop-map, take-take, take_all}
use Rattle.std.proofs.lemmas.List.Elements.{All-head, All-tail, All-weaker, All-contains_itself}
use Rattle.ct_tree.proofs.Split.{split_pos, split_lt}
use Rattle.ct_tree.specs.Tree.{split, hash_leaf, hash_node, mth_of_leaves}
use Rattle.ct_verify.proofs.Both.{both-left, both-right, both-end}
use Rattle.ct_verify.proofs.Options.{none_some, mapped}
use Rattle.ct_verify.proofs.RebuildLaws.{first_root}
use Rattle.ct_verify.proofs.Shown.{leaves_length, leaves_split}
use Rattle.ct_verify.specs.Climb.{pair_left, pair_right}
use Rattle.ct_verify.specs.Laws.{AreHashes}
use Rattle.ct_verify.specs.Rebuild.{both_roots, both_down}
use Rattle.ct_verify.proofs.Agreeing.{left_nodes, right_nodes, all_reverse}
use Rattle.ct_verify.proofs.Carrying.{whole_end, whole_given}
use Rattle.ct_verify.proofs.HashedStrings.{both_strings_left, both_strings_right}
use Rattle.ct_verify.specs.Hashed.{CollideAmong, IsHashedIn, proof_strings, proof_strings_down}
use Rattle.ct_verify.specs.Hashed.IsHashedIn.{node, left, right}
use Rattle.ct_verify.specs.OlderTree.{ProofGoesBack}

module _ (H : List ℕ → List ℕ) where
  -- MTH of more than k of the leaves
  first_leaves : (m k : ℕ) (D : List (List ℕ)) → split (length D) ≡ k → k < m → m < length D
      → mth_of_leaves H (take m D) ≡ hash_node H (mth_of_leaves H (take k D)) (mth_of_leaves H (take (m - k) (drop k D)))
  first_leaves m k D e high l =
      let n : length (map (hash_leaf H) D) ≡ length D = length-map D (hash_leaf H) in
      let z = first_root H m k (map (hash_leaf H) D) (ap split n ∙ e) high (omega arith) in
      rw (
        take-map (hash_leaf H) m D,
        take-map (hash_leaf H) k D,
        drop-map (hash_leaf H) k D,
        take-map (hash_leaf H) (m - k) (drop k D),
      ) at z

module _ (H : List ℕ → List ℕ) (hash_length : (x : List ℕ) → length (H x) ≡ 32) (S : List ℕ → Type 0) where
  -- S has the strings of a tree
  abbrev pub HasTree : List (List ℕ) → Type 0
  HasTree D = (s : List ℕ) → IsHashedIn H D s → S s

  -- S has the strings of the trees of all prefixes
  abbrev pub HasLog : List (List ℕ) → Type 0
  HasLog D = (n : ℕ) → n ≤ length D → (s : List ℕ) → IsHashedIn H (take n D) s → S s

  pub has_cut : (D : List (List ℕ)) (n : ℕ) → n ≤ length D → HasLog D → HasLog (take n D)
  has_cut D n l log m up s w =
      let e : length (take n D) ≡ n = length-take-le n D l in
      let i : m ≤ n = omega (arith, up, e) in
      log m (omega arith) s (subst (λ L. IsHashedIn H L s) (take-take m n D i) w)

  pub whole_log : (D : List (List ℕ)) → HasLog D → HasTree D
  whole_log D log s w = log (length D) (omega arith) s (subst (λ L. IsHashedIn H L s) (sym (take_all (length D) D (omega arith))) w)

  abbrev Found : ℕ → List (List ℕ) → List ℕ → Type 0
  Found m D x = (x ≡ mth_of_leaves H (take m D)) ⊎ CollideAmong H S

  abbrev Going : List (List ℕ) → Type 0
  Going p =
      (m : ℕ) (b : Bool) (r x : List ℕ) (D : List (List ℕ)) → AreHashes p → 0 < m → m ≤ length D → both_down H m (length D) b r p ≡ Some (x, mth_of_leaves H D)
      → All S (proof_strings_down H m (length D) b r p) → HasTree D → Found m D x

  whole_tree : (m : ℕ) (D : List (List ℕ)) (x : List ℕ) → length D ≤ m → x ≡ mth_of_leaves H D → Found m D x
  whole_tree m D x all e = inl (e ∙ ap (mth_of_leaves H) (sym (take_all m D all)))

  in_left : (p : List (List ℕ)) → Going p → (s : List ℕ) (m : ℕ) (b : Bool) (r x : List ℕ) (D : List (List ℕ)) → AreHashes (s ∷ p) → 0 < m → m < length D
      → m ≤ split (length D) → both_down H m (length D) b r (s ∷ p) ≡ Some (x, mth_of_leaves H D)
      → All S (proof_strings_down H m (length D) b r (s ∷ p)) → HasTree D → Found m D x
  in_left p ih s m b r x D hashes some less low e strings tree =
      let k = split (length D) in
      let more : 1 < length D = omega arith in
      let below : k < length D = split_lt (length D) more in
      let j : length (take k D) ≡ k = length-take-le k D (omega arith) in
      let d : length (drop k D) ≡ length D - k = length-drop k D in
      let A = mth_of_leaves H (take k D) in
      let B = mth_of_leaves H (drop k D) in
      let u = mapped (λ z. pair_left H z s) (both_down H m k b r p) (x, mth_of_leaves H D) (sym (both-left H m (length D) k b r s p less refl low) ∙ e) in
      let own = subst (All S) (both_strings_left H m (length D) k b r s u.0.0 u.0.1 p less refl low u.1) strings in
      let first : u.0.0 ≡ x = ap (λ (z : List ℕ × List ℕ). z.0) u.2 in
      let second : hash_node H u.0.1 s ≡ mth_of_leaves H D = ap (λ (z : List ℕ × List ℕ). z.1) u.2 in
      let long : length B ≡ 32 = leaves_length H hash_length (drop k D) (omega arith) in
      ⊎_elim
      (λ (same : (u.0.1 ≡ A) × (s ≡ B)).
      ⊎_elim
      (λ (i : u.0.0 ≡ mth_of_leaves H (take m (take k D))). inl (sym first ∙ i ∙ ap (mth_of_leaves H) (take-take m k D low)))
      (λ (pair : CollideAmong H S). inr pair)
      (ih m b r u.0.0 (take k D) (All-tail (λ v. length v ≡ 32) s p hashes) some (omega arith)
      (ap (λ n. both_down H m n b r p) j ∙ u.1 ∙ ap (λ v. Some (u.0.0, v)) same.0)
      (subst (λ n. All S (proof_strings_down H m n b r p)) (sym j) (All-tail S (1 ∷ u.0.1 ++ s) (proof_strings_down H m k b r p) own))
      (λ z w. tree z (left D k z more refl w))))
      (λ (pair : CollideAmong H S). inr pair)
      (right_nodes H S u.0.1 s A B (All-head (λ v. length v ≡ 32) s p hashes ∙ sym long) (All-head S (1 ∷ u.0.1 ++ s) (proof_strings_down H m k b r p) own)
      (tree (1 ∷ A ++ B) (node D k more refl)) (second ∙ leaves_split H D k more refl))

  in_right : (p : List (List ℕ)) → Going p → (s : List ℕ) (m : ℕ) (b : Bool) (r x : List ℕ) (D : List (List ℕ)) → AreHashes (s ∷ p) → 0 < m → m < length D
      → split (length D) < m → both_down H m (length D) b r (s ∷ p) ≡ Some (x, mth_of_leaves H D)
      → All S (proof_strings_down H m (length D) b r (s ∷ p)) → HasTree D → Found m D x
  in_right p ih s m b r x D hashes some less high e strings tree =
      let k = split (length D) in
      let more : 1 < length D = omega arith in
      let positive : 0 < k = split_pos (length D) more in
      let below : k < length D = split_lt (length D) more in
      let j : length (take k D) ≡ k = length-take-le k D (omega arith) in
      let d : length (drop k D) ≡ length D - k = length-drop k D in
      let A = mth_of_leaves H (take k D) in
      let B = mth_of_leaves H (drop k D) in
      let u = mapped (λ z. pair_right H z s) (both_down H (m - k) (length D - k) false r p) (x, mth_of_leaves H D)
      (sym (both-right H m (length D) k b r s p less refl high) ∙ e) in
      let own = subst (All S) (both_strings_right H m (length D) k b r s u.0.0 u.0.1 p less refl high u.1) strings in
      let rest = All-tail S (1 ∷ s ++ u.0.0) ((1 ∷ s ++ u.0.1) ∷ proof_strings_down H (m - k) (length D - k) false r p) own in
      let first : hash_node H s u.0.0 ≡ x = ap (λ (z : List ℕ × List ℕ). z.0) u.2 in
      let second : hash_node H s u.0.1 ≡ mth_of_leaves H D = ap (λ (z : List ℕ × List ℕ). z.1) u.2 in
      let long : length A ≡ 32 = leaves_length H hash_length (take k D) (omega arith) in
      ⊎_elim
      (λ (same : (s ≡ A) × (u.0.1 ≡ B)).
      ⊎_elim
      (λ (i : u.0.0 ≡ mth_of_leaves H (take (m - k) (drop k D))).
      inl (sym first ∙ ap (λ v. hash_node H v u.0.0) same.0 ∙ ap (λ v. hash_node H A v) i ∙ sym (first_leaves H m k D refl high less)))
      (λ (pair : CollideAmong H S). inr pair)
      (ih (m - k) false r u.0.0 (drop k D) (All-tail (λ v. length v ≡ 32) s p hashes) (omega arith) (omega arith)
      (ap (λ n. both_down H (m - k) n false r p) d ∙ u.1 ∙ ap (λ v. Some (u.0.0, v)) same.1)
      (subst (λ n. All S (proof_strings_down H (m - k) n false r p)) (sym d) (All-tail S (1 ∷ s ++ u.0.1) (proof_strings_down H (m - k) (length D - k) false r p) rest))
      (λ z w. tree z (right D k z more refl w))))
      (λ (pair : CollideAmong H S). inr pair)
      (left_nodes H S s u.0.1 A B (All-head (λ v. length v ≡ 32) s p hashes ∙ sym long)
      (All-head S (1 ∷ s ++ u.0.1) (proof_strings_down H (m - k) (length D - k) false r p) rest) (tree (1 ∷ A ++ B) (node D k more refl))
      (second ∙ leaves_split H D k more refl))

  goes : (p : List (List ℕ)) → Going p
  goes [] m b r x D hashes some up e strings tree =
      ⊎_elim
      (λ (less : m < length D). absurd (none_some (x, mth_of_leaves H D) (sym (both-end H m (length D) b r less) ∙ e)))
      (λ (all : length D ≤ m).
      let f : length D ≡ m = omega arith in
      let z = whole_end H (length D) b r x (mth_of_leaves H D) (ap (λ n. both_down H n (length D) b r []) f ∙ e) in
      whole_tree m D x all (z.0 ∙ sym z.1))
      (cases_lt m (length D))
  goes (s ∷ p) m b r x D hashes some up e strings tree =
      ⊎_elim
      (λ (less : m < length D). ⊎_elim
      (λ (high : split (length D) < m). in_right p (goes p) s m b r x D hashes some less high e strings tree)
      (λ (low : m ≤ split (length D)). in_left p (goes p) s m b r x D hashes some less low e strings tree)
      (cases_lt (split (length D)) m))
      (λ (all : length D ≤ m).
      let f : length D ≡ m = omega arith in
      let z = whole_given H (length D) b r s x (mth_of_leaves H D) p (ap (λ n. both_down H n (length D) b r (s ∷ p)) f ∙ e) in
      whole_tree m D x all (z.0 ∙ sym z.1))
      (cases_lt m (length D))

  -- the same, for a proof in its own order
  pub goes_back : (p : List (List ℕ)) (m : ℕ) (x : List ℕ) (D : List (List ℕ)) → AreHashes p → 0 < m → m ≤ length D
      → both_roots H m (length D) true x p ≡ Some (x, mth_of_leaves H D) → All S (proof_strings H m (length D) true x p) → HasTree D → Found m D x
  unfolding both_roots proof_strings
  goes_back p m x D hashes some up e strings tree =
      goes (reverse p) m true x x D (all_reverse (λ v. length v ≡ 32) p hashes) some up e strings tree

pub proof_goes_back : ProofGoesBack
proof_goes_back H hash_length D p m x hashes accepted =
    let strings = proof_strings H m (length D) true x p in
    let S : List ℕ → Type 0 = λ s. Contains strings s ⊎ IsHashedIn H D s in
    goes_back H hash_length S p m x D hashes accepted.0 (omega (arith, accepted.1)) accepted.2
    (All-weaker (Contains strings) S (λ s c. inl c) strings (All-contains_itself strings)) (λ s w. inr w)
