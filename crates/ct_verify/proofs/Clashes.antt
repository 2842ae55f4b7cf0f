-- The first clash of two lists and of a proof between them: if there is none, the old list begins the new one; if there is one, it is a
-- collision.
use Rattle.std.proofs.Common.{refl, subst, ◌⊎◌, inl, inr, ⊎_elim, ◌≡◌, ℕ, ◌-◌, ◌<◌, ◌≤◌, sym, ◌∙◌, ap, ap₂, arith, Bool, true, false, cond, List, [], ◌∷◌, ◌++◌}
use Rattle.std.proofs.Common.{reverse, length, take, drop, map, get_or, Option, Some, None, length-drop}
use Rattle.std.specs.Option.{option_or}
use Rattle.std.specs.Str.{bytes_eq}
use Rattle.std.proofs.lemmas.Bool.{cases_Bool, cond-true, cond-false, both_ways}
use Rattle.std.proofs.lemmas.Slice.Eq.{bytes_eq-Decides}
use Rattle.std.proofs.lemmas.List.{length-map, take-map, drop-map, take_rest, length-take-le}
use Rattle.ct_tree.proofs.Split.{split_pos, split_lt}
use Rattle.ct_tree.specs.Tree.{split, mth_of_leaves}
use Rattle.ct_verify.proofs.Options.{none_some, same_some}
use Rattle.ct_verify.proofs.Both.{both-end_whole, both-whole}
use Rattle.ct_verify.proofs.Comparing.{same_parts}
use Rattle.ct_verify.proofs.Shown.{tail_same, parts_right, leaves_length}
use Rattle.ct_verify.proofs.Prefix.{same_one, same_halves, begun_whole, begun_left, begun_right}
use Rattle.ct_verify.proofs.Walking.{split_within, one_pair, inner_left, inner_right, short}
use Rattle.ct_verify.specs.Rebuild.{both_roots, both_down}
use Rattle.ct_verify.specs.Evidence.{Collides}
use Rattle.ct_verify.specs.Search.{NodesApart, SameRoot, Begun}
use Rattle.ct_verify.specs.Clash.{clash_by, clash, root_string, ClashOfLists, leaf, node, ClashAlong, whole, left, right}

-- ---- one comparison
pub clash_same : (x y a b : List ℕ) → a ≡ b → clash_by x y a b ≡ None
clash_same x y a b e = cond-true (bytes_eq a b) None (cond (bytes_eq x y) (Some (a, b)) None) ((bytes_eq-Decides a b).1 e)

no_bool : (b : Bool) (P : Type 0) → (b ≡ true → P) → (P → ⊥) → b ≡ false
no_bool false P f n = refl
no_bool true P f n = absurd (n (f refl))

differ : (a b : List ℕ) → (a ≡ b → ⊥) → bytes_eq a b ≡ false
differ a b n = no_bool (bytes_eq a b) (a ≡ b) (bytes_eq-Decides a b).0 n

pub clash_of_apart : (x y a b : List ℕ) → (x ≡ y → ⊥) → clash_by x y a b ≡ None
clash_of_apart x y a b n =
    ⊎_elim
    (λ (t : bytes_eq a b ≡ true). clash_same x y a b ((bytes_eq-Decides a b).0 t))
    (λ (f : bytes_eq a b ≡ false). cond-false (bytes_eq a b) None (cond (bytes_eq x y) (Some (a, b)) None) f
    ∙ cond-false (bytes_eq x y) (Some (a, b)) None (differ x y n))
    (cases_Bool (bytes_eq a b))

pub clash_found : (x y a b : List ℕ) → (a ≡ b → ⊥) → x ≡ y → clash_by x y a b ≡ Some (a, b)
clash_found x y a b n e =
    cond-false (bytes_eq a b) None (cond (bytes_eq x y) (Some (a, b)) None) (differ a b n)
    ∙ cond-true (bytes_eq x y) (Some (a, b)) None ((bytes_eq-Decides x y).1 e)

or_none : {X : Type 0} (u v : Option X) → option_or u v ≡ None → (u ≡ None) × (v ≡ None)
or_none None v e = (refl, e)
or_none (Some x) v e = absurd (none_some x (sym e))

or_some : {X : Type 0} (u v : Option X) (z : X) → option_or u v ≡ Some z → (u ≡ Some z) ⊎ (v ≡ Some z)
or_some None v z e = inr e
or_some (Some x) v z e = inl e

module _ (H : List ℕ → List ℕ) where
  -- strings with the same hash that do not clash are equal
  clash_none : (a b : List ℕ) → clash H a b ≡ None → H a ≡ H b → a ≡ b
  clash_none a b e h =
      ⊎_elim
      (λ (t : bytes_eq a b ≡ true). (bytes_eq-Decides a b).0 t)
      (λ (f : bytes_eq a b ≡ false).
      absurd (none_some (a, b) (sym e ∙ clash_found (H a) (H b) a b (λ s. both_ways (bytes_eq a b) f ((bytes_eq-Decides a b).1 s)) h)))
      (cases_Bool (bytes_eq a b))

  clash_some : (a b : List ℕ) (z : List ℕ × List ℕ) → clash H a b ≡ Some z → Collides H z.0 z.1
  clash_some a b z e =
      ⊎_elim
      (λ (t : bytes_eq a b ≡ true). absurd (none_some z (sym (clash_same (H a) (H b) a b ((bytes_eq-Decides a b).0 t)) ∙ e)))
      (λ (f : bytes_eq a b ≡ false).
      ⊎_elim
      (λ (g : bytes_eq (H a) (H b) ≡ true).
      let n : a ≡ b → ⊥ = λ s. both_ways (bytes_eq a b) f ((bytes_eq-Decides a b).1 s) in
      let h : H a ≡ H b = (bytes_eq-Decides (H a) (H b)).0 g in
      let w : (a, b) ≡ z = same_some (a, b) z (sym (clash_found (H a) (H b) a b n h) ∙ e) in
      subst (λ (v : List ℕ × List ℕ). Collides H v.0 v.1) w (n, h))
      (λ (g : bytes_eq (H a) (H b) ≡ false).
      absurd (none_some z (sym (clash_of_apart (H a) (H b) a b (λ s. both_ways (bytes_eq (H a) (H b)) g ((bytes_eq-Decides (H a) (H b)).1 s))) ∙ e)))
      (cases_Bool (bytes_eq (H a) (H b))))
      (cases_Bool (bytes_eq a b))

  -- ---- the pair that is found is a collision
  pub lists_collide : (E D : List (List ℕ)) (found : Option (List ℕ × List ℕ)) (z : List ℕ × List ℕ) → ClashOfLists H E D found
      → found ≡ Some z → Collides H z.0 z.1
  lists_collide E D found z (leaf e d ee ed w) f = clash_some (0 ∷ e) (0 ∷ d) z (sym w ∙ f)
  lists_collide E D found z (node k u v n more s a b w) f =
      ⊎_elim
      (λ i. ⊎_elim (λ j. lists_collide (take k E) (take k D) u z a j) (λ j. lists_collide (drop k E) (drop k D) v z b j) (or_some u v z i))
      (λ i. clash_some (root_string H k E) (root_string H k D) z i)
      (or_some (option_or u v) (clash H (root_string H k E) (root_string H k D)) z (sym w ∙ f))

  pub along_collides : (b : Bool) (r : List ℕ) (E D p : List (List ℕ)) (found : Option (List ℕ × List ℕ)) (z : List ℕ × List ℕ)
      → ClashAlong H b r E D p found → found ≡ Some z → Collides H z.0 z.1
  along_collides b r E D p found z (whole n a) f = lists_collide E D found z a f
  along_collides b r E D p found z (left k q s x y u l e low g i two a w) f =
      ⊎_elim
      (λ j. along_collides b r E (take k D) q u z a j)
      (λ j. clash_some (1 ∷ y ++ s) (root_string H k D) z j)
      (or_some u (clash H (1 ∷ y ++ s) (root_string H k D)) z (sym w ∙ f))
  along_collides b r E D p found z (right k q s x y u v l e high g i two a c w) f =
      let old = clash H (1 ∷ s ++ x) (root_string H k E) in
      let new = clash H (1 ∷ s ++ y) (root_string H k D) in
      ⊎_elim
      (λ j. ⊎_elim (λ h. lists_collide (take k E) (take k D) u z a h) (λ h. along_collides false r (drop k E) (drop k D) q v z c h) (or_some u v z j))
      (λ j. ⊎_elim (λ h. clash_some (1 ∷ s ++ x) (root_string H k E) z h) (λ h. clash_some (1 ∷ s ++ y) (root_string H k D) z h) (or_some old new z j))
      (or_some (option_or u v) (option_or old new) z (sym w ∙ f))

-- ---- if nothing is found
module _ (H : List ℕ → List ℕ) (hash_length : (x : List ℕ) → length (H x) ≡ 32) where
  pub lists_same : (E D : List (List ℕ)) (found : Option (List ℕ × List ℕ)) → ClashOfLists H E D found → found ≡ None → SameRoot H E D
  lists_same E D found (leaf e d ee ed w) f =
      rw (ee, ed) (same_one H e d (λ g. tail_same 0 0 e d (clash_none H (0 ∷ e) (0 ∷ d) (sym w ∙ f) g)))
  lists_same E D found (node k u v n more s a b w) f =
      let z = or_none (option_or u v) (clash H (root_string H k E) (root_string H k D)) (sym w ∙ f) in
      let y = or_none u v z.0 in
      let positive : 0 < k = rw s (split_pos (length D) more) in
      let below : k < length D = rw s (split_lt (length D) more) in
      let i : length (take k E) ≡ k = length-take-le k E (omega arith) in
      let j : length (take k D) ≡ k = length-take-le k D (omega arith) in
      same_halves H E D k n more (sym s)
      (λ g.
      same_parts 32 (mth_of_leaves H (take k E)) (mth_of_leaves H (drop k E)) (mth_of_leaves H (take k D)) (mth_of_leaves H (drop k D))
      (leaves_length H hash_length (take k E) (omega arith)) (leaves_length H hash_length (take k D) (omega arith))
      (clash_none H (root_string H k E) (root_string H k D) z.1 g))
      (lists_same (take k E) (take k D) u a y.0)
      (lists_same (drop k E) (drop k D) v b y.1)

  -- the two roots are equal if the lists are equally long
  one_root_down : (q : List (List ℕ)) (n : ℕ) (b : Bool) (r x y : List ℕ) → both_down H n n b r q ≡ Some (x, y) → x ≡ y
  one_root_down [] n true r x y e = let z = one_pair H r x y [] (sym (both-end_whole H n n true r (omega arith)) ∙ e) in z.0 ∙ sym z.1
  one_root_down [] n false r x y e = absurd (none_some (x, y) (sym (both-end_whole H n n false r (omega arith)) ∙ e))
  one_root_down (s ∷ q) n true r x y e = absurd (none_some (x, y) (sym (both-whole H n n true r s q (omega arith)) ∙ e))
  one_root_down (s ∷ q) n false r x y e = let z = one_pair H s x y q (sym (both-whole H n n false r s q (omega arith)) ∙ e) in z.0 ∙ sym z.1

  one_root : (n : ℕ) (b : Bool) (r : List ℕ) (p : List (List ℕ)) (x y : List ℕ) → both_roots H n n b r p ≡ Some (x, y) → x ≡ y
  unfolding both_roots
  one_root n b r p x y e = one_root_down (reverse p) n b r x y e

  -- an element s of the proof next to the roots of the two parts
  left_apart : (y s A B : List ℕ) → length s ≡ 32 → length B ≡ 32 → clash H (1 ∷ y ++ s) (1 ∷ A ++ B) ≡ None → NodesApart H y s A B
  left_apart y s A B l m e g =
      parts_right y A s B (l ∙ sym m) (tail_same 1 1 (y ++ s) (A ++ B) (clash_none H (1 ∷ y ++ s) (1 ∷ A ++ B) e g))

  right_apart : (s x A B : List ℕ) → length s ≡ 32 → length A ≡ 32 → clash H (1 ∷ s ++ x) (1 ∷ A ++ B) ≡ None → NodesApart H s x A B
  right_apart s x A B l m e g = same_parts 32 s x A B l m (clash_none H (1 ∷ s ++ x) (1 ∷ A ++ B) e g)

  pub along_begins : (b : Bool) (r : List ℕ) (E D p : List (List ℕ)) (found : Option (List ℕ × List ℕ)) → 0 < length E → ClashAlong H b r E D p found
      → found ≡ None → Begun H b r p E D
  along_begins b r E D p found some (whole n a) f =
      begun_whole H b r p E D n (λ x y h. one_root (length D) b r p x y (rw n at h)) (lists_same E D found a f)
  along_begins b r E D p found some (left k q s x y u l e low g i two a w) f =
      let z = or_none u (clash H (1 ∷ y ++ s) (root_string H k D)) (sym w ∙ f) in
      let below : k < length D = rw e (split_lt (length D) (omega arith)) in
      let j : length (drop k D) ≡ length D - k = length-drop k D in
      begun_left H b r s x y p q E D k l (omega arith) (sym e) low g two
      (left_apart y s (mth_of_leaves H (take k D)) (mth_of_leaves H (drop k D)) i (leaves_length H hash_length (drop k D) (omega arith)) z.1)
      (along_begins b r E (take k D) q u some a z.0)
  along_begins b r E D p found some (right k q s x y u v l e high g i two a c w) f =
      let z = or_none (option_or u v) (option_or (clash H (1 ∷ s ++ x) (root_string H k E)) (clash H (1 ∷ s ++ y) (root_string H k D))) (sym w ∙ f) in
      let t = or_none u v z.0 in
      let o = or_none (clash H (1 ∷ s ++ x) (root_string H k E)) (clash H (1 ∷ s ++ y) (root_string H k D)) z.1 in
      let positive : 0 < k = rw e (split_pos (length D) (omega arith)) in
      let m : length (take k E) ≡ k = length-take-le k E (omega arith) in
      let n : length (take k D) ≡ k = length-take-le k D (omega arith) in
      let j : length (drop k E) ≡ length E - k = length-drop k E in
      begun_right H b r r s x y p q E D k l (omega arith) (sym e) (split_within (length E) (length D) k l e positive high) high g two
      (right_apart s x (mth_of_leaves H (take k E)) (mth_of_leaves H (drop k E)) i (leaves_length H hash_length (take k E) (omega arith)) o.0)
      (right_apart s y (mth_of_leaves H (take k D)) (mth_of_leaves H (drop k D)) i (leaves_length H hash_length (take k D) (omega arith)) o.1)
      (lists_same (take k E) (take k D) u a t.0)
      (along_begins false r (drop k E) (drop k D) q v (omega arith) c t.1)

-- ---- the leaves seen through a function f, and the slices that the code takes
module _ (H : List ℕ → List ℕ) {V : Type 0} (f : V → List ℕ) where
  pub clash_of_leaves : (xs ys : List V) (d e : V) (found : Option (List ℕ × List ℕ)) → length xs ≡ 1 → length ys ≡ 1
      → found ≡ clash H (0 ∷ f (get_or xs 0 d)) (0 ∷ f (get_or ys 0 e)) → ClashOfLists H (map f xs) (map f ys) found
  clash_of_leaves [] ys d e found l m c = absurd (omega arith)
  clash_of_leaves (u ∷ v ∷ xs) ys d e found l m c = absurd (omega arith)
  clash_of_leaves (u ∷ []) [] d e found l m c = absurd (omega arith)
  clash_of_leaves (u ∷ []) (v ∷ w ∷ ys) d e found l m c = absurd (omega arith)
  clash_of_leaves (u ∷ []) (v ∷ []) d e found l m c = leaf (f u) (f v) refl refl c

  strings_of : (xs : List V) (k : ℕ) (a b : List ℕ) → a ≡ mth_of_leaves H (map f (take k xs)) → b ≡ mth_of_leaves H (map f (take (length xs - k) (drop k xs)))
      → 1 ∷ a ++ b ≡ root_string H k (map f xs)
  strings_of xs k a b ea eb = rw (ea, eb, take_rest xs k, take-map f k xs, drop-map f k xs) refl

  pub clash_of_parts : (xs ys : List V) (k : ℕ) (a b c d : List ℕ) (u v found : Option (List ℕ × List ℕ)) → length xs ≡ length ys
      → 1 < length xs → k ≡ split (length xs)
      → a ≡ mth_of_leaves H (map f (take k xs)) → b ≡ mth_of_leaves H (map f (take (length xs - k) (drop k xs)))
      → c ≡ mth_of_leaves H (map f (take k ys)) → d ≡ mth_of_leaves H (map f (take (length ys - k) (drop k ys)))
      → ClashOfLists H (map f (take k xs)) (map f (take k ys)) u
      → ClashOfLists H (map f (take (length xs - k) (drop k xs))) (map f (take (length ys - k) (drop k ys))) v
      → found ≡ option_or (option_or u v) (clash H (1 ∷ a ++ b) (1 ∷ c ++ d))
      → ClashOfLists H (map f xs) (map f ys) found
  clash_of_parts xs ys k a b c d u v found n more e ea eb ec ed left_part right_part w =
      let m : length (map f xs) ≡ length xs = length-map xs f in
      let o : length (map f ys) ≡ length ys = length-map ys f in
      let under : ClashOfLists H (map f (drop k xs)) (map f (drop k ys)) v = rw (take_rest xs k, take_rest ys k) at right_part in
      node k u v (omega arith) (omega arith) (e ∙ ap split n ∙ ap split (sym o))
      (rw (take-map f k xs, take-map f k ys) left_part)
      (rw (drop-map f k xs, drop-map f k ys) under)
      (w ∙ ap₂ (λ t z. option_or (option_or u v) (clash H t z)) (strings_of xs k a b ea eb) (strings_of ys k c d ec ed))

  pub clash_of_whole : (b : Bool) (xs ys : List V) (r : List ℕ) (p : List (List ℕ)) (found : Option (List ℕ × List ℕ)) → length xs ≡ length ys
      → ClashOfLists H (map f xs) (map f ys) found → ClashAlong H b r (map f xs) (map f ys) p found
  clash_of_whole b xs ys r p found n a =
      whole (length-map xs f ∙ n ∙ sym (length-map ys f)) a

  pub clash_in_left : (b : Bool) (xs ys : List V) (k : ℕ) (r s v w c d : List ℕ) (p q : List (List ℕ)) (u found : Option (List ℕ × List ℕ))
      → 0 < length xs → length xs < length ys → k ≡ split (length ys) → length xs ≤ k
      → (0 < length p → p ≡ q ++ s ∷ []) → length s ≡ 32
      → ((x y : List ℕ) → both_roots H (length xs) (length (take k ys)) b r q ≡ Some (x, y) → (v ≡ x) × (w ≡ y))
      → c ≡ mth_of_leaves H (map f (take k ys)) → d ≡ mth_of_leaves H (map f (take (length ys - k) (drop k ys)))
      → ((x y : List ℕ) → both_roots H (length xs) (length (take k ys)) b r q ≡ Some (x, y) → ClashAlong H b r (map f xs) (map f (take k ys)) q u)
      → found ≡ option_or u (clash H (1 ∷ w ++ s) (1 ∷ c ++ d))
      → (x y : List ℕ) → both_roots H (length xs) (length ys) b r p ≡ Some (x, y) → ClashAlong H b r (map f xs) (map f ys) p found
  clash_in_left b xs ys k r s v w c d p q u found some l e low g h known ec ed inner o x y a =
      let m : length (map f xs) ≡ length xs = length-map xs f in
      let n : length (map f ys) ≡ length ys = length-map ys f in
      let i : length (take k ys) ≡ k = length-take-le k ys (omega (arith, e, split_lt (length ys) (omega arith))) in
      let z = inner_left H (length xs) (length ys) k b r s p q (x, y) l (sym e) low g a in
      let j : both_roots H (length xs) (length (take k ys)) b r q ≡ Some (z.0.0, z.0.1) = ap (λ i. both_roots H (length xs) i b r q) i ∙ z.1 in
      let t = known z.0.0 z.0.1 j in
      left k q s z.0.0 w u (omega arith) (e ∙ ap split (sym n)) (omega arith)
      (g (short H (length xs) (length ys) b r p (x, y) l a)) h
      (ap (λ i. both_roots H i k b r q) m ∙ z.1 ∙ ap (λ v. Some (z.0.0, v)) (sym t.1))
      (rw (take-map f k ys) (inner z.0.0 z.0.1 j))
      (o ∙ ap (λ t. option_or u (clash H (1 ∷ w ++ s) t)) (strings_of ys k c d ec ed))

  pub clash_in_right : (b : Bool) (xs ys : List V) (k : ℕ) (r s v w a c d e : List ℕ) (p q : List (List ℕ)) (u below found : Option (List ℕ × List ℕ))
      → length xs < length ys → k ≡ split (length ys) → 0 < k → k < length xs
      → (0 < length p → p ≡ q ++ s ∷ []) → length s ≡ 32
      → ((x y : List ℕ) → both_roots H (length (take (length xs - k) (drop k xs))) (length (take (length ys - k) (drop k ys))) false r q ≡ Some (x, y)
      → (v ≡ x) × (w ≡ y))
      → a ≡ mth_of_leaves H (map f (take k xs)) → c ≡ mth_of_leaves H (map f (take (length xs - k) (drop k xs)))
      → d ≡ mth_of_leaves H (map f (take k ys)) → e ≡ mth_of_leaves H (map f (take (length ys - k) (drop k ys)))
      → ClashOfLists H (map f (take k xs)) (map f (take k ys)) u
      → ((x y : List ℕ) → both_roots H (length (take (length xs - k) (drop k xs))) (length (take (length ys - k) (drop k ys))) false r q ≡ Some (x, y)
      → ClashAlong H false r (map f (take (length xs - k) (drop k xs))) (map f (take (length ys - k) (drop k ys))) q below)
      → found ≡ option_or (option_or u below) (option_or (clash H (1 ∷ s ++ v) (1 ∷ a ++ c)) (clash H (1 ∷ s ++ w) (1 ∷ d ++ e)))
      → (x y : List ℕ) → both_roots H (length xs) (length ys) b r p ≡ Some (x, y) → ClashAlong H b r (map f xs) (map f ys) p found
  clash_in_right b xs ys k r s v w a c d e p q u below found l is_split positive high g h known ea ec ed ee before inner o x y t =
      let m : length (map f xs) ≡ length xs = length-map xs f in
      let n : length (map f ys) ≡ length ys = length-map ys f in
      let old : length (take (length xs - k) (drop k xs)) ≡ length xs - k = ap length (take_rest xs k) ∙ length-drop k xs in
      let new : length (take (length ys - k) (drop k ys)) ≡ length ys - k = ap length (take_rest ys k) ∙ length-drop k ys in
      let z = inner_right H (length xs) (length ys) k b r r s p q (x, y) l (sym is_split) high g t in
      let j : both_roots H (length (take (length xs - k) (drop k xs))) (length (take (length ys - k) (drop k ys))) false r q ≡ Some (z.0.0, z.0.1) =
      rw (old, new) z.1 in
      let i = known z.0.0 z.0.1 j in
      let below_it : ClashAlong H false r (map f (drop k xs)) (map f (drop k ys)) q below = rw (take_rest xs k, take_rest ys k) at (inner z.0.0 z.0.1 j) in
      right k q s v w u below (omega arith) (is_split ∙ ap split (sym n)) (omega arith)
      (g (short H (length xs) (length ys) b r p (x, y) l t)) h
      (rw (m, n, i.0, i.1) z.1)
      (rw (take-map f k xs, take-map f k ys) before)
      (rw (drop-map f k xs, drop-map f k ys) below_it)
      (o ∙ ap₂ (λ t z. option_or (option_or u below) (option_or (clash H (1 ∷ s ++ v) t) (clash H (1 ∷ s ++ w) z))) (strings_of xs k a c ea ec)
      (strings_of ys k d e ed ee))
