-- The result of comparing a path with a list of leaves, one level up.
use Rattle.std.proofs.Common.{refl, ◌≡◌, ℕ, ◌+◌, ◌-◌, ◌<◌, ◌≤◌, sym, ◌∙◌, ap, arith, List, reverse, [], ◌∷◌, ◌++◌, length, take, drop, get_or, map, Option}
use Rattle.std.proofs.Common.{Some, None, length-drop}
use Rattle.std.proofs.lemmas.List.{length-map, take-map, drop-map, take_rest, get_or-take, get_or-drop, length-take-le}
use Rattle.ct_tree.proofs.Split.{split_lt}
use Rattle.ct_tree.specs.Tree.{split, hash_leaf, hash_node, mth_of_leaves}
use Rattle.ct_verify.proofs.Options.{reverse_first, reverse_last, none_some, same_some, mapped}
use Rattle.ct_verify.proofs.Rebuild.{rebuild-end, rebuild_past, rebuild_leaf}
use Rattle.ct_verify.proofs.RebuildLaws.{rebuild-left, rebuild-right}
use Rattle.ct_verify.proofs.Shown.{tail_same, parts, evid_left, evid_right, evid_leaf}
use Rattle.ct_verify.specs.Rebuild.{rebuild, rebuild_down}
use Rattle.ct_verify.specs.Evidence.{compared, evid}

pub same_parts : (n : ℕ) (a b c d : List ℕ) → length a ≡ n → length c ≡ n → 1 ∷ a ++ b ≡ 1 ∷ c ++ d → (a ≡ c) × (b ≡ d)
same_parts n a b c d l m e = parts a c b d (l ∙ sym m) (tail_same 1 1 (a ++ b) (c ++ d) e)

module _ (H : List ℕ → List ℕ) where
  nonempty : (m n : ℕ) (h : List ℕ) (p : List (List ℕ)) (r : List ℕ) → 1 < n → rebuild H m n h p ≡ Some r → 0 < length p
  nonempty m n h [] r l e = absurd (none_some r (sym (rebuild-end H m n h l) ∙ e))
  nonempty m n h (x ∷ p) r l e = omega arith

  past_one : (m n : ℕ) (h c : List ℕ) (q : List (List ℕ)) → n ≤ 1 → rebuild_down H m n h (q ++ c ∷ []) ≡ None
  past_one m n h c [] l = rebuild_past H m n h c [] l
  past_one m n h c (s ∷ q) l = rebuild_past H m n h s (q ++ c ∷ []) l

  past_leaf : (m n : ℕ) (h c : List ℕ) (p : List (List ℕ)) → n ≤ 1 → rebuild H m n h (c ∷ p) ≡ None
  unfolding rebuild
  past_leaf m n h c p l = rw (reverse_first c p) (past_one m n h c (reverse p) l)

  pub one_root : (m n : ℕ) (h : List ℕ) (p : List (List ℕ)) (r : List ℕ) → n ≡ 1 → rebuild H m n h p ≡ Some r → h ≡ r
  unfolding rebuild
  one_root m n h [] r e f = same_some h r (sym (rebuild_leaf H m n h (omega arith)) ∙ f)
  one_root m n h (x ∷ p) r e f = absurd (none_some r (sym (past_leaf m n h x p (omega arith)) ∙ f))

  pub climbed_left : (m n k : ℕ) (h s r : List ℕ) (p rest : List (List ℕ)) → 1 < n → split n ≡ k → m < k → (0 < length p → p ≡ rest ++ s ∷ [])
      → rebuild H m n h p ≡ Some r → (t : List ℕ) × (rebuild H m k h rest ≡ Some t) × (hash_node H t s ≡ r)
  climbed_left m n k h s r p rest l e low w a =
      let b : rebuild H m n h p ≡ rebuild H m n h (rest ++ s ∷ []) = ap (rebuild H m n h) (w (nonempty m n h p r l a)) in
      mapped (λ x. hash_node H x s) (rebuild H m k h rest) r (sym (b ∙ rebuild-left H m n k h s rest l e low) ∙ a)

  pub climbed_right : (m n k : ℕ) (h s r : List ℕ) (p rest : List (List ℕ)) → 1 < n → split n ≡ k → k ≤ m → (0 < length p → p ≡ rest ++ s ∷ [])
      → rebuild H m n h p ≡ Some r → (t : List ℕ) × (rebuild H (m - k) (n - k) h rest ≡ Some t) × (hash_node H s t ≡ r)
  climbed_right m n k h s r p rest l e high w a =
      let b : rebuild H m n h p ≡ rebuild H m n h (rest ++ s ∷ []) = ap (rebuild H m n h) (w (nonempty m n h p r l a)) in
      mapped (λ x. hash_node H s x) (rebuild H (m - k) (n - k) h rest) r (sym (b ∙ rebuild-right H m n k h s rest l e high) ∙ a)

  evid_last_left : (D : List (List ℕ)) (leaf : List ℕ) (m k : ℕ) (s t : List ℕ) (q : List (List ℕ)) → split (length D) ≡ k → m < k
      → rebuild H m k (hash_leaf H leaf) q ≡ Some t
      → evid H D leaf m (q ++ s ∷ []) ≡ compared (1 ∷ t ++ s) (1 ∷ mth_of_leaves H (take k D) ++ mth_of_leaves H (drop k D)) (evid H (take k D) leaf m q)
  unfolding evid rebuild
  evid_last_left D leaf m k s t q e low f = rw (reverse_last q s) (evid_left H D leaf m k s t _ e low f)

  evid_last_right : (D : List (List ℕ)) (leaf : List ℕ) (m k : ℕ) (s t : List ℕ) (q : List (List ℕ)) → split (length D) ≡ k → k ≤ m
      → rebuild H (m - k) (length D - k) (hash_leaf H leaf) q ≡ Some t
      → evid H D leaf m (q ++ s ∷ []) ≡ compared (1 ∷ s ++ t) (1 ∷ mth_of_leaves H (take k D) ++ mth_of_leaves H (drop k D)) (evid H (drop k D) leaf (m - k) q)
  unfolding evid rebuild
  evid_last_right D leaf m k s t q e high f = rw (reverse_last q s) (evid_right H D leaf m k s t _ e high f)

  pub evid_at_leaf : (leaf d : List ℕ) (m n : ℕ) (p : List (List ℕ)) (r : List ℕ) → n ≡ 1 → rebuild H m n (hash_leaf H leaf) p ≡ Some r
      → evid H (d ∷ []) leaf m p ≡ compared (0 ∷ leaf) (0 ∷ d) None
  unfolding evid
  evid_at_leaf leaf d m n [] r e f = evid_leaf H (d ∷ []) leaf m
  evid_at_leaf leaf d m n (x ∷ p) r e f = absurd (none_some r (sym (past_leaf m n (hash_leaf H leaf) x p (omega arith)) ∙ f))

-- ---- the leaves seen through a function f
module _ (H : List ℕ → List ℕ) {V : Type 0} (f : V → List ℕ) where
  pub leaf_difference : (xs : List V) (d : V) (leaf : List ℕ) (m : ℕ) (p : List (List ℕ)) (result : List ℕ → Option (List ℕ × List ℕ)) → length xs ≡ 1
      → result (f (get_or xs 0 d)) ≡ compared (0 ∷ leaf) (0 ∷ f (get_or xs 0 d)) None
      → (r : List ℕ) → m < length xs → rebuild H m (length xs) (hash_leaf H leaf) p ≡ Some r
      → result (get_or (map f xs) m []) ≡ evid H (map f xs) leaf m p
  leaf_difference [] d leaf m p result n e r l a = absurd (omega arith)
  leaf_difference (x ∷ y ∷ xs) d leaf m p result n e r l a = absurd (omega arith)
  leaf_difference (x ∷ []) d leaf m p result n e r l a =
      let z : m ≡ 0 = omega arith in
      ap (λ i. result (get_or (map f (x ∷ [])) i [])) z ∙ e ∙ sym (evid_at_leaf H leaf (f x) m 1 p r refl a)

  pub left_difference : (xs : List V) (leaf : List ℕ) (m k : ℕ) (p rest : List (List ℕ)) (s x y z : List ℕ) (found result : List ℕ → Option (List ℕ × List ℕ))
      → 1 < length xs → k ≡ split (length xs) → m < k → (0 < length p → p ≡ rest ++ s ∷ [])
      → ((t : List ℕ) → rebuild H m (length (take k xs)) (hash_leaf H leaf) rest ≡ Some t → x ≡ t)
      → y ≡ mth_of_leaves H (map f (take k xs)) → z ≡ mth_of_leaves H (map f (take (length xs - k) (drop k xs)))
      → ((t : List ℕ) → m < length (take k xs) → rebuild H m (length (take k xs)) (hash_leaf H leaf) rest ≡ Some t
      → found (get_or (map f (take k xs)) m []) ≡ evid H (map f (take k xs)) leaf m rest)
      → ((o : List ℕ) → result o ≡ compared (1 ∷ x ++ s) (1 ∷ y ++ z) (found o))
      → (r : List ℕ) → rebuild H m (length xs) (hash_leaf H leaf) p ≡ Some r → result (get_or (map f xs) m []) ≡ evid H (map f xs) leaf m p
  left_difference xs leaf m k p rest s x y z found result more e low w ih_x ey ez ih make r a =
      let c : length (take k xs) ≡ k = length-take-le k xs (omega (arith, split_lt (length xs) more)) in
      let n : length (map f xs) ≡ length xs = length-map xs f in
      let b = climbed_left H m (length xs) k (hash_leaf H leaf) s r p rest more (sym e) low w a in
      let t = b.0 in
      let root : rebuild H m (length (take k xs)) (hash_leaf H leaf) rest ≡ Some t = ap (λ i. rebuild H m i (hash_leaf H leaf) rest) c ∙ b.1 in
      let g : get_or (map f (take k xs)) m [] ≡ get_or (map f xs) m [] =
      ap (λ D. get_or D m []) (sym (take-map f k xs)) ∙ get_or-take k (map f xs) m [] low in
      let under : found (get_or (map f xs) m []) ≡ evid H (map f (take k xs)) leaf m rest = ap found (sym g) ∙ ih t (omega arith) root in
      let i = evid_last_left H (map f xs) leaf m k s t rest (ap split n ∙ sym e) low b.1 in
      let j = rw (take-map f k xs, drop-map f k xs) at i in
      make (get_or (map f xs) m [])
      ∙ rw (ih_x t root, ey, ez, take_rest xs k, under) (sym j)
      ∙ ap (evid H (map f xs) leaf m) (sym (w (nonempty H m (length xs) (hash_leaf H leaf) p r more a)))

  pub right_difference : (xs : List V) (leaf : List ℕ) (m k : ℕ) (p rest : List (List ℕ)) (s x y z : List ℕ) (found result : List ℕ → Option (List ℕ × List ℕ))
      → 1 < length xs → k ≡ split (length xs) → k ≤ m → (0 < length p → p ≡ rest ++ s ∷ [])
      → ((t : List ℕ) → rebuild H (m - k) (length (take (length xs - k) (drop k xs))) (hash_leaf H leaf) rest ≡ Some t → x ≡ t)
      → y ≡ mth_of_leaves H (map f (take k xs)) → z ≡ mth_of_leaves H (map f (take (length xs - k) (drop k xs)))
      → ((t : List ℕ) → m - k < length (take (length xs - k) (drop k xs))
      → rebuild H (m - k) (length (take (length xs - k) (drop k xs))) (hash_leaf H leaf) rest ≡ Some t
      → found (get_or (map f (take (length xs - k) (drop k xs))) (m - k) []) ≡ evid H (map f (take (length xs - k) (drop k xs))) leaf (m - k) rest)
      → ((o : List ℕ) → result o ≡ compared (1 ∷ s ++ x) (1 ∷ y ++ z) (found o))
      → (r : List ℕ) → m < length xs → rebuild H m (length xs) (hash_leaf H leaf) p ≡ Some r → result (get_or (map f xs) m []) ≡ evid H (map f xs) leaf m p
  right_difference xs leaf m k p rest s x y z found result more e high w ih_x ey ez ih make r inside a =
      let tr = take_rest xs k in
      let c : length (drop k xs) ≡ length xs - k = length-drop k xs in
      let n : length (map f xs) ≡ length xs = length-map xs f in
      let b = climbed_right H m (length xs) k (hash_leaf H leaf) s r p rest more (sym e) high w a in
      let t = b.0 in
      let c2 : length (take (length xs - k) (drop k xs)) ≡ length xs - k = ap length tr ∙ c in
      let root : rebuild H (m - k) (length (take (length xs - k) (drop k xs))) (hash_leaf H leaf) rest ≡ Some t =
      ap (λ i. rebuild H (m - k) i (hash_leaf H leaf) rest) c2 ∙ b.1 in
      let j : k + (m - k) ≡ m = omega arith in
      let g : get_or (map f (take (length xs - k) (drop k xs))) (m - k) [] ≡ get_or (map f xs) m [] =
      ap (λ D. get_or (map f D) (m - k) []) tr
      ∙ ap (λ D. get_or D (m - k) []) (sym (drop-map f k xs)) ∙ get_or-drop k (map f xs) (m - k) [] ∙ ap (λ u. get_or (map f xs) u []) j in
      let under : found (get_or (map f xs) m []) ≡ evid H (map f (drop k xs)) leaf (m - k) rest =
      ap found (sym g) ∙ ih t (omega arith) root ∙ ap (λ D. evid H (map f D) leaf (m - k) rest) tr in
      let i = evid_last_right H (map f xs) leaf m k s t rest (ap split n ∙ sym e) high (ap (λ u. rebuild H (m - k) (u - k) (hash_leaf H leaf) rest) n ∙ b.1) in
      let j = rw (take-map f k xs, drop-map f k xs) at i in
      make (get_or (map f xs) m [])
      ∙ rw (ih_x t root, ey, ez, tr, under) (sym j)
      ∙ ap (evid H (map f xs) leaf m) (sym (w (nonempty H m (length xs) (hash_leaf H leaf) p r more a)))

  -- the root that the path yields
  pub left_rebuilt : (xs : List V) (h : List ℕ) (m k : ℕ) (p rest : List (List ℕ)) (s x v : List ℕ)
      → 1 < length xs → k ≡ split (length xs) → m < k → (0 < length p → p ≡ rest ++ s ∷ [])
      → ((t : List ℕ) → rebuild H m (length (take k xs)) h rest ≡ Some t → x ≡ t)
      → v ≡ hash_node H x s → (r : List ℕ) → rebuild H m (length xs) h p ≡ Some r → v ≡ r
  left_rebuilt xs h m k p rest s x v more e low w ih make r a =
      let c : length (take k xs) ≡ k = length-take-le k xs (omega (arith, split_lt (length xs) more)) in
      let b = climbed_left H m (length xs) k h s r p rest more (sym e) low w a in
      make ∙ ap (λ u. hash_node H u s) (ih b.0 (ap (λ i. rebuild H m i h rest) c ∙ b.1)) ∙ b.2

  pub right_rebuilt : (xs : List V) (h : List ℕ) (m k : ℕ) (p rest : List (List ℕ)) (s x v : List ℕ)
      → 1 < length xs → k ≡ split (length xs) → k ≤ m → (0 < length p → p ≡ rest ++ s ∷ [])
      → ((t : List ℕ) → rebuild H (m - k) (length (take (length xs - k) (drop k xs))) h rest ≡ Some t → x ≡ t)
      → v ≡ hash_node H s x → (r : List ℕ) → rebuild H m (length xs) h p ≡ Some r → v ≡ r
  right_rebuilt xs h m k p rest s x v more e high w ih make r a =
      let c : length (take (length xs - k) (drop k xs)) ≡ length xs - k = ap length (take_rest xs k) ∙ length-drop k xs in
      let b = climbed_right H m (length xs) k h s r p rest more (sym e) high w a in
      make ∙ ap (λ u. hash_node H s u) (ih b.0 (ap (λ i. rebuild H (m - k) i h rest) c ∙ b.1)) ∙ b.2
