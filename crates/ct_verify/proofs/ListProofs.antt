-- Lists of leaves with accepted proofs: the proofs are true of them, or two of the hashed strings collide. S is a property that these
-- strings have.
use Rattle.std.proofs.Common.{refl, subst, ◌⊎◌, inl, inr, ⊎_elim, ◌≡◌, ℕ, ◌+◌, ◌-◌, ◌<◌, ◌≤◌, sym, ◌∙◌, ap, arith, true, List, [], ◌∷◌, ◌++◌, length, take, drop, map, get_or, reverse}
use Rattle.std.proofs.Common.{Some, length-drop}
use Rattle.std.specs.Prelude.{All, Contains}
use Rattle.std.proofs.lemmas.Bool.{cases_lt}
use Rattle.std.proofs.lemmas.List.{length-take-le, length-map, take-map, drop-map, get_or-take, get_or-drop, get_or-map, reverse-reverse, take-append-drop, take_all}
use Rattle.std.proofs.lemmas.List.Elements.{All-nil, All-cons, All-head, All-tail, All-weaker, All-contains_itself}
use Rattle.ct_tree.proofs.Split.{split_pos, split_lt, split_induct}
use Rattle.ct_tree.proofs.Path.{path-small, path-left, path-right}
use Rattle.ct_tree.specs.Tree.{split, hash_leaf, mth_of_leaves, path}
use Rattle.ct_verify.proofs.Equations.{path_rebuilds}
use Rattle.ct_verify.proofs.Options.{reverse_last}
use Rattle.ct_verify.proofs.Shown.{leaves_length, leaves_split, leaves_one, tail_same}
use Rattle.ct_verify.specs.ConsistencyEvidence.{IsAcceptedFor, IsBeginning}
use Rattle.ct_verify.specs.Evidence.{IsAudited}
use Rattle.ct_verify.specs.Laws.{AreHashes}
use Rattle.ct_verify.specs.Rebuild.{rebuild, rebuild_down}
use Rattle.ct_verify.proofs.Agreeing.{one_hash, left_nodes, agree}
use Rattle.ct_verify.proofs.OlderTree.{HasTree, HasLog, goes_back}
use Rattle.ct_verify.proofs.HashedStrings.{strings_left, strings_right}
use Rattle.ct_verify.specs.Hashed.{CollideAmong, IsHashedIn, path_strings, path_strings_down, proof_strings}
use Rattle.ct_verify.specs.Hashed.IsHashedIn.{leaf, node, left, right}
use Rattle.ct_verify.specs.ListLaws.{OneRootIsOfOneList, AcceptedPathIsPath, AcceptedProofIsOfBeginning, IsHashedInAudit, IsHashedBetween}

none_of : (E : List (List ℕ)) → length E ≡ 0 → E ≡ []
none_of [] l = refl
none_of (e ∷ E) l = absurd (omega (arith, l))

only : (E : List (List ℕ)) → length E ≡ 1 → (e : List ℕ) × (E ≡ e ∷ [])
only [] l = absurd (omega (arith, l))
only (e ∷ []) l = (e, refl)
only (e ∷ f ∷ E) l = absurd (omega (arith, l))

-- ---- PATH, from the root
module _ (H : List ℕ → List ℕ) where
  path_one : (m : ℕ) (D : List (List ℕ)) → length D ≤ 1 → reverse (path H m (map (hash_leaf H) D)) ≡ []
  path_one m D l = rw (path-small H m (map (hash_leaf H) D) (omega (arith, length-map D (hash_leaf H)))) refl

  path_left : (m k : ℕ) (D : List (List ℕ)) → 1 < length D → split (length D) ≡ k → m < k
      → reverse (path H m (map (hash_leaf H) D)) ≡ mth_of_leaves H (drop k D) ∷ reverse (path H m (map (hash_leaf H) (take k D)))
  path_left m k D l e low =
      let n : length (map (hash_leaf H) D) ≡ length D = length-map D (hash_leaf H) in
      ap reverse (path-left H m k (map (hash_leaf H) D) (omega arith) (ap split n ∙ e) low)
      ∙ rw (take-map (hash_leaf H) k D, drop-map (hash_leaf H) k D) (reverse_last (path H m (map (hash_leaf H) (take k D))) (mth_of_leaves H (drop k D)))

  path_right : (m k : ℕ) (D : List (List ℕ)) → 1 < length D → split (length D) ≡ k → k ≤ m
      → reverse (path H m (map (hash_leaf H) D)) ≡ mth_of_leaves H (take k D) ∷ reverse (path H (m - k) (map (hash_leaf H) (drop k D)))
  path_right m k D l e high =
      let n : length (map (hash_leaf H) D) ≡ length D = length-map D (hash_leaf H) in
      ap reverse (path-right H m k (map (hash_leaf H) D) (omega arith) (ap split n ∙ e) high)
      ∙ rw (take-map (hash_leaf H) k D, drop-map (hash_leaf H) k D) (reverse_last (path H (m - k) (map (hash_leaf H) (drop k D))) (mth_of_leaves H (take k D)))

  low_leaf : (D : List (List ℕ)) (m k : ℕ) → m < k → get_or (take k D) m [] ≡ get_or D m []
  low_leaf D m k low = get_or-take k D m [] low

  high_leaf : (D : List (List ℕ)) (m k : ℕ) → k ≤ m → get_or (drop k D) (m - k) [] ≡ get_or D m []
  high_leaf D m k high =
      let j : k + (m - k) ≡ m = omega arith in
      get_or-drop k D (m - k) [] ∙ ap (λ u. get_or D u []) j

  path_root : (D : List (List ℕ)) (m n : ℕ) (x : List ℕ) → length D ≡ n → m < n → x ≡ get_or D m []
      → rebuild_down H m n (hash_leaf H x) (reverse (path H m (map (hash_leaf H) D))) ≡ Some (mth_of_leaves H D)
  unfolding rebuild
  path_root D m n x e l f =
      let c : length (map (hash_leaf H) D) ≡ n = length-map D (hash_leaf H) ∙ e in
      let g : get_or (map (hash_leaf H) D) m [] ≡ hash_leaf H x = get_or-map (hash_leaf H) D m [] [] (omega arith) ∙ ap (hash_leaf H) (sym f) in
      let z = path_rebuilds H m (map (hash_leaf H) D) (omega arith) in
      rw (c, g) at z

module _ (H : List ℕ → List ℕ) (hash_length : (x : List ℕ) → length (H x) ≡ 32) (S : List ℕ → Type 0) where
  abbrev Same : ℕ → Type 0
  Same n =
      (E D : List (List ℕ)) → length E ≡ n → length D ≡ n → mth_of_leaves H E ≡ mth_of_leaves H D → HasTree H hash_length S E → HasTree H hash_length S D
      → (E ≡ D) ⊎ CollideAmong H S

  same_of_one : Same 1
  same_of_one E D i j e in_E in_D =
      let a = only E i in
      let b = only D j in
      let f : hash_leaf H a.0 ≡ hash_leaf H b.0 = sym (leaves_one H a.0) ∙ ap (mth_of_leaves H) (sym a.1) ∙ e ∙ ap (mth_of_leaves H) b.1 ∙ leaves_one H b.0 in
      let u : S (0 ∷ a.0) = in_E (0 ∷ a.0) (subst (λ L. IsHashedIn H L (0 ∷ a.0)) (sym a.1) (leaf a.0)) in
      let v : S (0 ∷ b.0) = in_D (0 ∷ b.0) (subst (λ L. IsHashedIn H L (0 ∷ b.0)) (sym b.1) (leaf b.0)) in
      ⊎_elim
      (λ (same : 0 ∷ a.0 ≡ 0 ∷ b.0). inl (a.1 ∙ ap (λ x. x ∷ []) (tail_same 0 0 a.0 b.0 same) ∙ sym b.1))
      (λ (pair : CollideAmong H S). inr pair)
      (one_hash H S (0 ∷ a.0) (0 ∷ b.0) u v f)

  same_of_more : (n : ℕ) → 1 < n → Same (split n) → Same (n - split n) → Same n
  same_of_more n more below_left below_right E D i j e in_E in_D =
      let k = split n in
      let kE : k ≡ split (length E) = ap split (sym i) in
      let kD : k ≡ split (length D) = ap split (sym j) in
      let inside : k < n = split_lt n more in
      let positive : 0 < k = split_pos n more in
      let tE : length (take k E) ≡ k = length-take-le k E (omega arith) in
      let tD : length (take k D) ≡ k = length-take-le k D (omega arith) in
      let dE : length (drop k E) ≡ n - k = omega (arith, length-drop k E) in
      let dD : length (drop k D) ≡ n - k = omega (arith, length-drop k D) in
      let manyE : 1 < length E = omega arith in
      let manyD : 1 < length D = omega arith in
      let A = mth_of_leaves H (take k E) in
      let B = mth_of_leaves H (drop k E) in
      let C = mth_of_leaves H (take k D) in
      let F = mth_of_leaves H (drop k D) in
      let lA : length A ≡ 32 = leaves_length H hash_length (take k E) (omega arith) in
      let lC : length C ≡ 32 = leaves_length H hash_length (take k D) (omega arith) in
      ⊎_elim
      (λ (same : (A ≡ C) × (B ≡ F)).
      ⊎_elim
      (λ (l : take k E ≡ take k D).
      ⊎_elim
      (λ (r : drop k E ≡ drop k D). inl (sym (take-append-drop k E) ∙ rw (l, r) refl ∙ take-append-drop k D))
      (λ (pair : CollideAmong H S). inr pair)
      (below_right (drop k E) (drop k D) dE dD same.1 (λ z w. in_E z (right E k z manyE kE w)) (λ z w. in_D z (right D k z manyD kD w))))
      (λ (pair : CollideAmong H S). inr pair)
      (below_left (take k E) (take k D) tE tD same.0 (λ z w. in_E z (left E k z manyE kE w)) (λ z w. in_D z (left D k z manyD kD w))))
      (λ (pair : CollideAmong H S). inr pair)
      (left_nodes H S A B C F (lA ∙ sym lC) (in_E (1 ∷ A ++ B) (node E k manyE kE)) (in_D (1 ∷ C ++ F) (node D k manyD kD))
      (sym (leaves_split H E k manyE (sym kE)) ∙ e ∙ leaves_split H D k manyD (sym kD)))

  pub same_lists : (n : ℕ) → Same n
  same_lists = split_induct Same (λ E D i j e in_E in_D. inl (none_of E i ∙ sym (none_of D j))) same_of_one same_of_more

  none_hashed : (m n : ℕ) (h : List ℕ) → All S (path_strings_down H m n h [])
  unfolding path_strings_down
  none_hashed m n h = All-nil S

  -- the strings of the PATH of a leaf are those of its tree
  path_hashed : (n : ℕ) (D : List (List ℕ)) (m : ℕ) (x : List ℕ) → length D ≡ n → m < n → x ≡ get_or D m [] → HasTree H hash_length S D
      → All S (path_strings_down H m n (hash_leaf H x) (reverse (path H m (map (hash_leaf H) D))))
  path_hashed =
      split_induct (λ n. (D : List (List ℕ)) (m : ℕ) (x : List ℕ) → length D ≡ n → m < n → x ≡ get_or D m [] → HasTree H hash_length S D
      → All S (path_strings_down H m n (hash_leaf H x) (reverse (path H m (map (hash_leaf H) D)))))
      (λ D m x e l f tree. absurd (omega arith))
      (λ D m x e l f tree.
      rw (path_one H m D (omega arith)) (none_hashed m 1 (hash_leaf H x)))
      (λ n more below_left below_right D m x e l f tree.
      let k = split n in
      let g : split (length D) ≡ k = ap split e in
      let many : 1 < length D = omega arith in
      ⊎_elim
      (λ (low : m < k).
      let c = length-take-le k D (omega (arith, split_lt n more)) in
      let t : x ≡ get_or (take k D) m [] = f ∙ sym (low_leaf H D m k low) in
      let q = reverse (path H m (map (hash_leaf H) (take k D))) in
      let root = path_root H (take k D) m k x c low t in
      rw (path_left H m k D many g low)
      (subst (All S) (sym (strings_left H m n k (hash_leaf H x) (mth_of_leaves H (drop k D)) (mth_of_leaves H (take k D)) q refl low root))
      (All-cons S (1 ∷ mth_of_leaves H (take k D) ++ mth_of_leaves H (drop k D)) (path_strings_down H m k (hash_leaf H x) q)
      (tree (1 ∷ mth_of_leaves H (take k D) ++ mth_of_leaves H (drop k D)) (node D k many (sym g)))
      (below_left (take k D) m x c low t (λ z w. tree z (left D k z many (sym g) w))))))
      (λ (high : k ≤ m).
      let c : length (drop k D) ≡ n - k = omega (arith, length-drop k D) in
      let t : x ≡ get_or (drop k D) (m - k) [] = f ∙ sym (high_leaf H D m k high) in
      let q = reverse (path H (m - k) (map (hash_leaf H) (drop k D))) in
      let root = path_root H (drop k D) (m - k) (n - k) x c (omega arith) t in
      rw (path_right H m k D many g high)
      (subst (All S) (sym (strings_right H m n k (hash_leaf H x) (mth_of_leaves H (take k D)) (mth_of_leaves H (drop k D)) q refl high root))
      (All-cons S (1 ∷ mth_of_leaves H (take k D) ++ mth_of_leaves H (drop k D)) (path_strings_down H (m - k) (n - k) (hash_leaf H x) q)
      (tree (1 ∷ mth_of_leaves H (take k D) ++ mth_of_leaves H (drop k D)) (node D k many (sym g)))
      (below_right (drop k D) (m - k) x c (omega arith) t (λ z w. tree z (right D k z many (sym g) w))))))
      (cases_lt m k))

  -- the leaf of a list at an index is hashed in its tree
  leaf_hashed : (n : ℕ) (D : List (List ℕ)) (m : ℕ) → length D ≡ n → m < n → HasTree H hash_length S D → S (0 ∷ get_or D m [])
  leaf_hashed =
      split_induct (λ n. (D : List (List ℕ)) (m : ℕ) → length D ≡ n → m < n → HasTree H hash_length S D → S (0 ∷ get_or D m []))
      (λ D m e l tree. absurd (omega arith))
      (λ D m e l tree.
      let a = only D e in
      let z : m ≡ 0 = omega arith in
      let f : get_or D m [] ≡ a.0 = ap (λ i. get_or D i []) z ∙ ap (λ L. get_or L 0 []) a.1 in
      subst (λ v. S (0 ∷ v)) (sym f) (tree (0 ∷ a.0) (subst (λ L. IsHashedIn H L (0 ∷ a.0)) (sym a.1) (leaf a.0))))
      (λ n more below_left below_right D m e l tree.
      let k = split n in
      let g : k ≡ split (length D) = ap split (sym e) in
      let many : 1 < length D = omega arith in
      let inside = split_lt n more in
      let t : length (take k D) ≡ k = length-take-le k D (omega arith) in
      let d : length (drop k D) ≡ n - k = omega (arith, length-drop k D) in
      ⊎_elim
      (λ (low : m < k).
      subst (λ v. S (0 ∷ v)) (low_leaf H D m k low) (below_left (take k D) m t low (λ z w. tree z (left D k z many g w))))
      (λ (high : k ≤ m).
      subst (λ v. S (0 ∷ v)) (high_leaf H D m k high) (below_right (drop k D) (m - k) d (omega arith) (λ z w. tree z (right D k z many g w))))
      (cases_lt m k))

  pub audited : (D : List (List ℕ)) (x : List ℕ) (m : ℕ) (p : List (List ℕ)) → m < length D
      → rebuild H m (length D) (hash_leaf H x) p ≡ Some (mth_of_leaves H D) → S (0 ∷ x) → All S (path_strings H m (length D) (hash_leaf H x) p)
      → HasTree H hash_length S D → IsAudited H D x m p ⊎ CollideAmong H S
  unfolding rebuild path_strings
  audited D x m p inside e leaf_string strings tree =
      let d = get_or D m [] in
      let own = reverse (path H m (map (hash_leaf H) D)) in
      ⊎_elim
      (λ (same : (hash_leaf H x ≡ hash_leaf H d) × (reverse p ≡ own)).
      let q : p ≡ path H m (map (hash_leaf H) D) = sym (reverse-reverse p) ∙ ap reverse same.1 ∙ reverse-reverse (path H m (map (hash_leaf H) D)) in
      ⊎_elim
      (λ (one : 0 ∷ x ≡ 0 ∷ d). inl (inside, tail_same 0 0 x d one, q))
      (λ (pair : CollideAmong H S). inr pair)
      (one_hash H S (0 ∷ x) (0 ∷ d) leaf_string (leaf_hashed (length D) D m refl inside tree) same.0))
      (λ (pair : CollideAmong H S). inr pair)
      (agree H hash_length S (reverse p) own m (length D) (hash_leaf H x) (hash_leaf H d) (mth_of_leaves H D) (hash_length (0 ∷ x)) (hash_length (0 ∷ d)) strings
      (path_hashed (length D) D m d refl inside refl tree) e (path_root H D m (length D) d refl inside refl))

  -- a proof between the roots of two lists
  pub beginning : (E D p : List (List ℕ)) → AreHashes p → IsAcceptedFor H E D p → All S (proof_strings H (length E) (length D) true (mth_of_leaves H E) p)
      → HasTree H hash_length S E → HasLog H hash_length S D → IsBeginning E D ⊎ CollideAmong H S
  beginning E D p hashes accepted strings tree log =
      let m = length E in
      let l : m ≤ length D = omega (arith, accepted.1) in
      ⊎_elim
      (λ (e : mth_of_leaves H E ≡ mth_of_leaves H (take m D)). same_lists m E (take m D) refl (length-take-le m D l) e tree (log m l))
      (λ (pair : CollideAmong H S). inr pair)
      (goes_back H hash_length S p m (mth_of_leaves H E) D hashes accepted.0 l accepted.2 strings
      (λ s w. log (length D) (omega arith) s (subst (λ L. IsHashedIn H L s) (sym (take_all (length D) D (omega arith))) w)))

pub accepted_path_is_path : AcceptedPathIsPath
accepted_path_is_path H hash_length D x m p accepted =
    let strings = (0 ∷ x) ∷ path_strings H m (length D) (hash_leaf H x) p in
    let S = IsHashedInAudit H D x m p in
    let all : All S strings = All-weaker (Contains strings) S (λ s c. inl c) strings (All-contains_itself strings) in
    audited H hash_length S D x m p accepted.0 accepted.1 (All-head S (0 ∷ x) (path_strings H m (length D) (hash_leaf H x) p) all)
    (All-tail S (0 ∷ x) (path_strings H m (length D) (hash_leaf H x) p) all) (λ s w. inr w)

pub one_root_is_of_one_list : OneRootIsOfOneList
one_root_is_of_one_list H hash_length E D same e =
    same_lists H hash_length (λ s. IsHashedIn H E s ⊎ IsHashedIn H D s) (length D) E D same refl e (λ s w. inl w) (λ s w. inr w)

pub accepted_proof_is_of_beginning : AcceptedProofIsOfBeginning
accepted_proof_is_of_beginning H hash_length E D p hashes accepted =
    let S = IsHashedBetween H E D p in
    let strings = proof_strings H (length E) (length D) true (mth_of_leaves H E) p in
    beginning H hash_length S E D p hashes accepted (All-weaker (Contains strings) S (λ s c. inl c) strings (All-contains_itself strings)) (λ s w. inr (inl w))
    (λ n l s w. inr (inr (n, l, w)))
