-- The conclusion from walking down an accepted path, and that nothing is found if the path is PATH.
use Rattle.std.proofs.Common.{◌≡◌, ℕ, ◌+◌, ◌-◌, ◌<◌, ◌≤◌, refl, subst, sym, ◌∙◌, ap, arith, List, [], ◌∷◌, ◌++◌, reverse, length, take, drop, get_or, map}
use Rattle.std.proofs.Common.{Option, Some, None, true, false, length-drop, ⊎_elim}
use Rattle.std.specs.Str.{bytes_eq}
use Rattle.std.proofs.lemmas.Bool.{cases_Bool, cond-true, cond-false, both_ways, lt-ltb, le-ltb, cases_lt}
use Rattle.std.proofs.lemmas.Slice.Eq.{bytes_eq-Decides}
use Rattle.std.proofs.lemmas.List.{length-append, length-map, take-map, drop-map, get_or-take, get_or-drop, length-take-le, get_or-map, reverse-reverse}
use Rattle.std.proofs.lemmas.List.Elements.{All-nil, All-cons, All-head, All-tail}
use Rattle.ct_tree.proofs.Split.{split_pos, split_lt, split_induct}
use Rattle.ct_tree.proofs.Mth.{mth-one, mth-split_at}
use Rattle.ct_tree.proofs.Path.{path-small, path-left, path-right}
use Rattle.ct_tree.specs.Tree.{split, hash_leaf, hash_node, mth_of_leaves, path}
use Rattle.ct_verify.proofs.Options.{reverse_last, same_some, none_some, mapped}
use Rattle.ct_verify.proofs.Rebuild.{rebuild_left, rebuild_right, rebuild_past, rebuild_short, rebuild_leaf}
use Rattle.ct_verify.proofs.Equations.{path_rebuilds}
use Rattle.ct_verify.specs.Rebuild.{rebuild, rebuild_down}
use Rattle.ct_verify.specs.Evidence.{Collides, compared, evid_down, evid, IsAudited}
use Rattle.ct_verify.specs.Laws.{AreHashes}

pub head_same : {X : Type 0} (x y : X) (xs ys : List X) → x ∷ xs ≡ y ∷ ys → x ≡ y
head_same x y xs ys e = cc

pub tail_same : {X : Type 0} (x y : X) (xs ys : List X) → x ∷ xs ≡ y ∷ ys → xs ≡ ys
tail_same x y xs ys e = cc

-- the conclusion from a comparison: P if no pair is found, and otherwise a collision
abbrev pub Shows : (List ℕ → List ℕ) → Type 0 → Option (List ℕ × List ℕ) → Type 0
Shows H P None = P
Shows H P (Some z) = Collides H z.0 z.1

-- two lists that consist of two parts each, the left parts equally long
pub parts : {X : Type 0} (a b c d : List X) → length a ≡ length b → a ++ c ≡ b ++ d → (a ≡ b) × (c ≡ d)
parts [] [] c d l e = (refl, e)
parts [] (y ∷ b) c d l e = absurd (omega arith)
parts (x ∷ a) [] c d l e = absurd (omega arith)
parts (x ∷ a) (y ∷ b) c d l e =
    let t : a ++ c ≡ b ++ d = tail_same x y (a ++ c) (b ++ d) e in
    let h : x ≡ y = head_same x y (a ++ c) (b ++ d) e in
    let z = parts a b c d (omega arith) t in
    (rw (h, z.0) refl, z.1)

-- the right parts equally long
pub parts_right : {X : Type 0} (a b c d : List X) → length c ≡ length d → a ++ c ≡ b ++ d → (a ≡ b) × (c ≡ d)
parts_right a b c d l e =
    let n : length (a ++ c) ≡ length (b ++ d) = ap length e in
    parts a b c d (omega (arith, length-append a c, length-append b d)) e

-- the last of some hashes
abbrev pub Lasts : List (List ℕ) → Type 0
Lasts p = (q : List (List ℕ)) × (s : List ℕ) × (p ≡ q ++ s ∷ []) × (length s ≡ 32) × AreHashes q

pub last_of : (p : List (List ℕ)) → 0 < length p → AreHashes p → Lasts p
last_of [] some a = absurd (omega arith)
last_of (s ∷ []) some a = ([], s, refl, All-head (λ x. length x ≡ 32) s [] a, All-nil (λ x. length x ≡ 32))
last_of (t ∷ s ∷ p) some a =
    let z = last_of (s ∷ p) (omega arith) (All-tail (λ x. length x ≡ 32) t (s ∷ p) a) in
    (t ∷ z.0, z.1, ap (λ v. t ∷ v) z.2, z.3, All-cons (λ x. length x ≡ 32) t z.0 (All-head (λ x. length x ≡ 32) t (s ∷ p) a) z.4)

module _ (H : List ℕ → List ℕ) where
  pub shows_map : (P Q : Type 0) (o : Option (List ℕ × List ℕ)) → (P → Q) → Shows H P o → Shows H Q o
  shows_map P Q None f s = f s
  shows_map P Q (Some z) f s = s

  -- two strings with the same hash, compared
  pub compared_shows : (P : Type 0) (x y : List ℕ) (below : Option (List ℕ × List ℕ)) → H x ≡ H y → ((x ≡ y) → Shows H P below) → Shows H P (compared x y below)
  compared_shows P x y below e under =
      ⊎_elim
      (λ (t : bytes_eq x y ≡ true). subst (Shows H P) (sym (cond-true (bytes_eq x y) below (Some (x, y)) t)) (under ((bytes_eq-Decides x y).0 t)))
      (λ (f : bytes_eq x y ≡ false). subst (Shows H P) (sym (cond-false (bytes_eq x y) below (Some (x, y)) f))
      (λ s. both_ways (bytes_eq x y) f ((bytes_eq-Decides x y).1 s), e))
      (cases_Bool (bytes_eq x y))

  pub compared_same : (x : List ℕ) (below : Option (List ℕ × List ℕ)) → compared x x below ≡ below
  compared_same x below = cond-true (bytes_eq x x) below (Some (x, x)) ((bytes_eq-Decides x x).1 refl)

  pub leaves_one : (x : List ℕ) → mth_of_leaves H (x ∷ []) ≡ hash_leaf H x
  leaves_one x = mth-one H (hash_leaf H x)

  pub leaves_split : (D : List (List ℕ)) (k : ℕ) → 1 < length D → split (length D) ≡ k
      → mth_of_leaves H D ≡ hash_node H (mth_of_leaves H (take k D)) (mth_of_leaves H (drop k D))
  leaves_split D k l e =
      let n : length (map (hash_leaf H) D) ≡ length D = length-map D (hash_leaf H) in
      mth-split_at H (map (hash_leaf H) D) k (omega arith) (ap split n ∙ e)
      ∙ rw (take-map (hash_leaf H) k D, drop-map (hash_leaf H) k D) refl

  -- ---- one step down
  pub evid_left : (D : List (List ℕ)) (leaf : List ℕ) (m k : ℕ) (s r : List ℕ) (q : List (List ℕ)) → split (length D) ≡ k → m < k
      → rebuild_down H m k (hash_leaf H leaf) q ≡ Some r
      → evid_down H D leaf m (s ∷ q) ≡ compared (1 ∷ r ++ s) (1 ∷ mth_of_leaves H (take k D) ++ mth_of_leaves H (drop k D)) (evid_down H (take k D) leaf m q)
  unfolding evid_down
  evid_left D leaf m k s r q e low f = rw (e, lt-ltb m k low, f) refl

  pub evid_right : (D : List (List ℕ)) (leaf : List ℕ) (m k : ℕ) (s r : List ℕ) (q : List (List ℕ)) → split (length D) ≡ k → k ≤ m
      → rebuild_down H (m - k) (length D - k) (hash_leaf H leaf) q ≡ Some r
      → evid_down H D leaf m (s ∷ q) ≡ compared (1 ∷ s ++ r) (1 ∷ mth_of_leaves H (take k D) ++ mth_of_leaves H (drop k D))
      (evid_down H (drop k D) leaf (m - k) q)
  unfolding evid_down
  evid_right D leaf m k s r q e high f = rw (e, le-ltb m k high, f) refl

  pub evid_leaf : (D : List (List ℕ)) (leaf : List ℕ) (m : ℕ) → evid_down H D leaf m [] ≡ compared (0 ∷ leaf) (0 ∷ get_or D 0 []) None
  unfolding evid_down
  evid_leaf D leaf m = refl

  -- ---- PATH, from the root
  path_one : (m : ℕ) (D : List (List ℕ)) → length D ≤ 1 → reverse (path H m (map (hash_leaf H) D)) ≡ []
  path_one m D l = rw (path-small H m (map (hash_leaf H) D) (omega (arith, length-map D (hash_leaf H)))) refl

  path_left : (m k : ℕ) (D : List (List ℕ)) → 1 < length D → split (length D) ≡ k → m < k
      → reverse (path H m (map (hash_leaf H) D)) ≡ mth_of_leaves H (drop k D) ∷ reverse (path H m (map (hash_leaf H) (take k D)))
  path_left m k D l e low =
      let n : length (map (hash_leaf H) D) ≡ length D = length-map D (hash_leaf H) in
      ap reverse (path-left H m k (map (hash_leaf H) D) (omega arith) (ap split n ∙ e) low)
      ∙ rw (take-map (hash_leaf H) k D, drop-map (hash_leaf H) k D) (reverse_last (path H m (map (hash_leaf H) (take k D))) (mth_of_leaves H (drop k D)))

  path_right : (m k : ℕ) (D : List (List ℕ)) → 1 < length D → split (length D) ≡ k → k ≤ m
      → reverse (path H m (map (hash_leaf H) D)) ≡ mth_of_leaves H (take k D) ∷ reverse (path H (m - k) (map (hash_leaf H) (drop k D)))
  path_right m k D l e high =
      let n : length (map (hash_leaf H) D) ≡ length D = length-map D (hash_leaf H) in
      ap reverse (path-right H m k (map (hash_leaf H) D) (omega arith) (ap split n ∙ e) high)
      ∙ rw (take-map (hash_leaf H) k D, drop-map (hash_leaf H) k D) (reverse_last (path H (m - k) (map (hash_leaf H) (drop k D))) (mth_of_leaves H (take k D)))

  -- ---- if nothing differs
  low_leaf : (D : List (List ℕ)) (m k : ℕ) → m < k → get_or (take k D) m [] ≡ get_or D m []
  low_leaf D m k low = get_or-take k D m [] low

  high_leaf : (D : List (List ℕ)) (m k : ℕ) → k ≤ m → get_or (drop k D) (m - k) [] ≡ get_or D m []
  high_leaf D m k high =
      let j : k + (m - k) ≡ m = omega arith in
      get_or-drop k D (m - k) [] ∙ ap (λ u. get_or D u []) j

  path_root : (D : List (List ℕ)) (m n : ℕ) (x : List ℕ) → length D ≡ n → m < n → x ≡ get_or D m []
      → rebuild_down H m n (hash_leaf H x) (reverse (path H m (map (hash_leaf H) D))) ≡ Some (mth_of_leaves H D)
  unfolding rebuild
  path_root D m n x e l f =
      let c : length (map (hash_leaf H) D) ≡ n = length-map D (hash_leaf H) ∙ e in
      let g : get_or (map (hash_leaf H) D) m [] ≡ hash_leaf H x = get_or-map (hash_leaf H) D m [] [] (omega arith) ∙ ap (hash_leaf H) (sym f) in
      let z = path_rebuilds H m (map (hash_leaf H) D) (omega arith) in
      rw (c, g) at z

  pub agreeing : (n : ℕ) (D : List (List ℕ)) (m : ℕ) (leaf : List ℕ) → length D ≡ n → m < n → leaf ≡ get_or D m []
      → evid_down H D leaf m (reverse (path H m (map (hash_leaf H) D))) ≡ None
  agreeing =
      split_induct (λ n. (D : List (List ℕ)) (m : ℕ) (leaf : List ℕ) → length D ≡ n → m < n → leaf ≡ get_or D m []
      → evid_down H D leaf m (reverse (path H m (map (hash_leaf H) D))) ≡ None)
      (λ D m leaf e l f. absurd (omega arith))
      (λ D m leaf e l f.
      let z : m ≡ 0 = omega arith in
      let g : leaf ≡ get_or D 0 [] = f ∙ ap (λ u. get_or D u []) z in
      rw (path_one m D (omega arith)) (evid_leaf D leaf m ∙ rw g (compared_same (0 ∷ get_or D 0 []) None)))
      (λ n h left right D m leaf e l f.
      let g : split (length D) ≡ split n = ap split e in
      ⊎_elim
      (λ (low : m < split n).
      let c = length-take-le (split n) D (omega (arith, split_lt n h)) in
      let t : leaf ≡ get_or (take (split n) D) m [] = f ∙ sym (low_leaf D m (split n) low) in
      rw (path_left m (split n) D (omega arith) g low)
      (evid_left D leaf m (split n) (mth_of_leaves H (drop (split n) D)) (mth_of_leaves H (take (split n) D))
      (reverse (path H m (map (hash_leaf H) (take (split n) D)))) g low
      (path_root (take (split n) D) m (split n) leaf c low t)
      ∙ compared_same (1 ∷ mth_of_leaves H (take (split n) D) ++ mth_of_leaves H (drop (split n) D))
      (evid_down H (take (split n) D) leaf m (reverse (path H m (map (hash_leaf H) (take (split n) D)))))
      ∙ left (take (split n) D) m leaf c low t))
      (λ (high : split n ≤ m).
      let c : length (drop (split n) D) ≡ n - split n = omega (arith, length-drop (split n) D) in
      let d : length (drop (split n) D) ≡ length D - split n = omega (arith, length-drop (split n) D) in
      let t : leaf ≡ get_or (drop (split n) D) (m - split n) [] = f ∙ sym (high_leaf D m (split n) high) in
      rw (path_right m (split n) D (omega arith) g high)
      (evid_right D leaf m (split n) (mth_of_leaves H (take (split n) D)) (mth_of_leaves H (drop (split n) D))
      (reverse (path H (m - split n) (map (hash_leaf H) (drop (split n) D)))) g high
      (path_root (drop (split n) D) (m - split n) (length D - split n) leaf d (omega arith) t)
      ∙ compared_same (1 ∷ mth_of_leaves H (take (split n) D) ++ mth_of_leaves H (drop (split n) D))
      (evid_down H (drop (split n) D) leaf (m - split n) (reverse (path H (m - split n) (map (hash_leaf H) (drop (split n) D)))))
      ∙ right (drop (split n) D) (m - split n) leaf c (omega arith) t))
      (cases_lt m (split n)))

-- ---- down an accepted path
module _ (H : List ℕ → List ℕ) (hash_length : (x : List ℕ) → length (H x) ≡ 32) where
  pub leaves_length : (D : List (List ℕ)) → 0 < length D → length (mth_of_leaves H D) ≡ 32
  leaves_length [] l = absurd (omega arith)
  leaves_length (x ∷ []) l = ap length (leaves_one H x) ∙ hash_length (0 ∷ x)
  leaves_length (x ∷ y ∷ D) l =
      let more : 1 < length (x ∷ y ∷ D) = omega arith in
      let k = split (length (x ∷ y ∷ D)) in
      ap length (leaves_split H (x ∷ y ∷ D) k more refl)
      ∙ hash_length (1 ∷ mth_of_leaves H (take k (x ∷ y ∷ D)) ++ mth_of_leaves H (drop k (x ∷ y ∷ D)))

  pub rebuilt_length : (q : List (List ℕ)) (m n : ℕ) (h r : List ℕ) → length h ≡ 32 → rebuild_down H m n h q ≡ Some r → length r ≡ 32
  rebuilt_length [] m n h r l e =
      ⊎_elim (λ (more : 1 < n). absurd (none_some r (sym (rebuild_short H m n h more) ∙ e)))
      (λ (few : n ≤ 1). ap length (same_some r h (sym e ∙ rebuild_leaf H m n h few)) ∙ l)
      (cases_lt 1 n)
  rebuilt_length (s ∷ q) m n h r l e =
      ⊎_elim
      (λ (more : 1 < n). ⊎_elim
      (λ (low : m < split n).
      let z = mapped (λ x. hash_node H x s) (rebuild_down H m (split n) h q) r (sym (rebuild_left H m n (split n) h s q more refl low) ∙ e) in
      ap length (sym z.2) ∙ hash_length (1 ∷ z.0 ++ s))
      (λ (high : split n ≤ m).
      let z = mapped (λ x. hash_node H s x) (rebuild_down H (m - split n) (n - split n) h q) r (sym (rebuild_right H m n (split n) h s q more refl high) ∙ e) in
      ap length (sym z.2) ∙ hash_length (1 ∷ s ++ z.0))
      (cases_lt m (split n)))
      (λ (few : n ≤ 1). absurd (none_some r (sym (rebuild_past H m n h s q few) ∙ e)))
      (cases_lt 1 n)

  abbrev pub Agrees : List (List ℕ) → List ℕ → ℕ → List (List ℕ) → Type 0
  Agrees D leaf m q = (leaf ≡ get_or D m []) × (q ≡ reverse (path H m (map (hash_leaf H) D)))

  pub shown : (q : List (List ℕ)) (D : List (List ℕ)) (leaf : List ℕ) (m : ℕ) → m < length D
      → rebuild_down H m (length D) (hash_leaf H leaf) q ≡ Some (mth_of_leaves H D)
      → Shows H (Agrees D leaf m q) (evid_down H D leaf m q)
  shown [] [] leaf m i e = absurd (omega arith)
  shown [] (x ∷ y ∷ D) leaf m i e =
      absurd (none_some (mth_of_leaves H (x ∷ y ∷ D)) (sym (rebuild_short H m (length (x ∷ y ∷ D)) (hash_leaf H leaf) (omega arith)) ∙ e))
  shown [] (x ∷ []) leaf m i e =
      let z : m ≡ 0 = omega arith in
      let g : hash_leaf H leaf ≡ hash_leaf H x =
      same_some (hash_leaf H leaf) (hash_leaf H x) (sym (rebuild_leaf H m 1 (hash_leaf H leaf) (omega arith)) ∙ e ∙ ap Some (leaves_one H x)) in
      subst (Shows H (Agrees (x ∷ []) leaf m [])) (sym (evid_leaf H (x ∷ []) leaf m))
      (compared_shows H (Agrees (x ∷ []) leaf m []) (0 ∷ leaf) (0 ∷ x) None g
      (λ s. (tail_same 0 0 leaf x s ∙ ap (λ u. get_or (x ∷ []) u []) (sym z), sym (path_one H m (x ∷ []) (omega arith)))))
  shown (s ∷ q) D leaf m i e =
      ⊎_elim
      (λ (more : 1 < length D).
      let k = split (length D) in
      let A = mth_of_leaves H (take k D) in
      let B = mth_of_leaves H (drop k D) in
      let root = leaves_split H D k more refl in
      let inside = split_lt (length D) more in
      let positive = split_pos (length D) more in
      let c : length (take k D) ≡ k = length-take-le k D (omega (arith, inside)) in
      let d : length (drop k D) ≡ length D - k = length-drop k D in
      ⊎_elim
      (λ (low : m < k).
      let z = mapped (λ x. hash_node H x s) (rebuild_down H m k (hash_leaf H leaf) q) (mth_of_leaves H D)
      (sym (rebuild_left H m (length D) k (hash_leaf H leaf) s q more refl low) ∙ e) in
      let r = z.0 in
      let n = rebuilt_length q m k (hash_leaf H leaf) r (hash_length (0 ∷ leaf)) z.1 in
      subst (Shows H (Agrees D leaf m (s ∷ q))) (sym (evid_left H D leaf m k s r q refl low z.1))
      (compared_shows H (Agrees D leaf m (s ∷ q)) (1 ∷ r ++ s) (1 ∷ A ++ B) (evid_down H (take k D) leaf m q) (z.2 ∙ root)
      (λ u.
      let w = parts r A s B (n ∙ sym (leaves_length (take k D) (omega (arith, c, positive)))) (tail_same 1 1 (r ++ s) (A ++ B) u) in
      shows_map H (Agrees (take k D) leaf m q) (Agrees D leaf m (s ∷ q)) (evid_down H (take k D) leaf m q)
      (λ v. (v.0 ∙ low_leaf H D m k low, rw (w.1, v.1) (sym (path_left H m k D more refl low))))
      (shown q (take k D) leaf m (omega (arith, c)) (ap (λ x. rebuild_down H m x (hash_leaf H leaf) q) c ∙ z.1 ∙ ap Some w.0)))))
      (λ (high : k ≤ m).
      let z = mapped (λ x. hash_node H s x) (rebuild_down H (m - k) (length D - k) (hash_leaf H leaf) q) (mth_of_leaves H D)
      (sym (rebuild_right H m (length D) k (hash_leaf H leaf) s q more refl high) ∙ e) in
      let r = z.0 in
      let n = rebuilt_length q (m - k) (length D - k) (hash_leaf H leaf) r (hash_length (0 ∷ leaf)) z.1 in
      subst (Shows H (Agrees D leaf m (s ∷ q))) (sym (evid_right H D leaf m k s r q refl high z.1))
      (compared_shows H (Agrees D leaf m (s ∷ q)) (1 ∷ s ++ r) (1 ∷ A ++ B) (evid_down H (drop k D) leaf (m - k) q) (z.2 ∙ root)
      (λ u.
      let w = parts_right s A r B (n ∙ sym (leaves_length (drop k D) (omega (arith, d, inside)))) (tail_same 1 1 (s ++ r) (A ++ B) u) in
      shows_map H (Agrees (drop k D) leaf (m - k) q) (Agrees D leaf m (s ∷ q)) (evid_down H (drop k D) leaf (m - k) q)
      (λ v. (v.0 ∙ high_leaf H D m k high, rw (w.0, v.1) (sym (path_right H m k D more refl high))))
      (shown q (drop k D) leaf (m - k) (omega (arith, d)) (ap (λ x. rebuild_down H (m - k) x (hash_leaf H leaf) q) d ∙ z.1 ∙ ap Some w.1)))))
      (cases_lt m k))
      (λ (few : length D ≤ 1). absurd (none_some (mth_of_leaves H D) (sym (rebuild_past H m (length D) (hash_leaf H leaf) s q few) ∙ e)))
      (cases_lt 1 (length D))

  -- an accepted path shows the leaf and its PATH, or a collision
  pub evid_shows : (D : List (List ℕ)) (leaf : List ℕ) (m : ℕ) (p : List (List ℕ)) → m < length D
      → rebuild H m (length D) (hash_leaf H leaf) p ≡ Some (mth_of_leaves H D) → Shows H (IsAudited H D leaf m p) (evid H D leaf m p)
  unfolding evid rebuild
  evid_shows D leaf m p i e =
      shows_map H (Agrees D leaf m (reverse p)) (IsAudited H D leaf m p) (evid_down H D leaf m (reverse p))
      (λ v. (i, v.0, sym (reverse-reverse p) ∙ ap reverse v.1 ∙ reverse-reverse (path H m (map (hash_leaf H) D))))
      (shown (reverse p) D leaf m i e)

  pub audited_none : (D : List (List ℕ)) (leaf : List ℕ) (m : ℕ) (p : List (List ℕ)) → IsAudited H D leaf m p → evid H D leaf m p ≡ None
  unfolding evid
  audited_none D leaf m p a = rw a.2 (agreeing H (length D) D m leaf refl a.0 a.1)

  pub audited_accepted : (D : List (List ℕ)) (leaf : List ℕ) (m : ℕ) (p : List (List ℕ)) → IsAudited H D leaf m p
      → rebuild H m (length D) (hash_leaf H leaf) p ≡ Some (mth_of_leaves H D)
  unfolding rebuild
  audited_accepted D leaf m p a = rw a.2 (path_root H D m (length D) leaf refl a.0 a.1)
