-- The conclusion from a consistency proof for two lists: the old one begins the new one, if no two strings that are compared on the way
-- differ and have the same hash. Each law is one step from the parts to the whole.
use Rattle.std.proofs.Common.{refl, ◌≡◌, ℕ, ◌+◌, ◌-◌, ◌<◌, ◌≤◌, sym, ◌∙◌, ap, arith, Bool, false, List, [], ◌∷◌, ◌++◌, length, take, drop, Some}
use Rattle.std.proofs.Common.{length-drop}
use Rattle.std.specs.Option.{option_map}
use Rattle.std.proofs.lemmas.List.{length-take-le, take-append-drop, take-take, drop-take, take_all}
use Rattle.ct_tree.proofs.Split.{split_lt}
use Rattle.ct_tree.specs.Tree.{split, hash_leaf, hash_node, mth_of_leaves}
use Rattle.ct_verify.proofs.RebuildLaws.{both_left, both_right}
use Rattle.ct_verify.proofs.Options.{same_some}
use Rattle.ct_verify.proofs.Shown.{leaves_split, leaves_one}
use Rattle.ct_verify.specs.Climb.{pair_left, pair_right}
use Rattle.ct_verify.specs.Rebuild.{both_roots}
use Rattle.ct_verify.specs.Search.{NodesApart, SameRoot, Begun}

parts_make : {X : Type 0} (k : ℕ) (xs ys : List X) → take k xs ≡ take k ys → drop k xs ≡ drop k ys → xs ≡ ys
parts_make k xs ys a b = sym (take-append-drop k xs) ∙ rw (a, b) (take-append-drop k ys)

pair_parts : (u v : List ℕ × List ℕ) → u ≡ v → (u.0 ≡ v.0) × (u.1 ≡ v.1)
pair_parts u v e = (ap (λ (z : List ℕ × List ℕ). z.0) e, ap (λ (z : List ℕ × List ℕ). z.1) e)

module _ (H : List ℕ → List ℕ) where
  halves : (D : List (List ℕ)) (k : ℕ) → 1 < length D → split (length D) ≡ k
      → mth_of_leaves H D ≡ hash_node H (mth_of_leaves H (take k D)) (mth_of_leaves H (drop k D))
  halves D k l e = leaves_split H D k l e

  pub same_one : (x y : List ℕ) → (hash_leaf H x ≡ hash_leaf H y → x ≡ y) → SameRoot H (x ∷ []) (y ∷ [])
  same_one x y apart e = ap (λ z. z ∷ []) (apart (sym (leaves_one H x) ∙ e ∙ leaves_one H y))

  pub same_halves : (E D : List (List ℕ)) (k : ℕ) → length E ≡ length D → 1 < length D → split (length D) ≡ k
      → NodesApart H (mth_of_leaves H (take k E)) (mth_of_leaves H (drop k E)) (mth_of_leaves H (take k D)) (mth_of_leaves H (drop k D))
      → SameRoot H (take k E) (take k D) → SameRoot H (drop k E) (drop k D) → SameRoot H E D
  same_halves E D k n l s apart left right e =
      let z = apart (sym (halves E k (omega arith) (ap split n ∙ s)) ∙ e ∙ halves D k l s) in
      parts_make k E D (left z.0) (right z.1)

  pub begun_whole : (b : Bool) (r : List ℕ) (p E D : List (List ℕ)) → length E ≡ length D
      → ((x y : List ℕ) → both_roots H (length E) (length D) b r p ≡ Some (x, y) → x ≡ y) → SameRoot H E D → Begun H b r p E D
  begun_whole b r p E D n one same e =
      same (one (mth_of_leaves H E) (mth_of_leaves H D) e) ∙ sym (take_all (length E) D (omega arith))

  -- the old list is in the left part: x, y are the roots that the proof yields there
  pub begun_left : (b : Bool) (r s x y : List ℕ) (p q E D : List (List ℕ)) (k : ℕ) → length E < length D → 1 < length D → split (length D) ≡ k → length E ≤ k
      → p ≡ q ++ s ∷ [] → both_roots H (length E) k b r q ≡ Some (x, y)
      → NodesApart H y s (mth_of_leaves H (take k D)) (mth_of_leaves H (drop k D))
      → Begun H b r q E (take k D) → Begun H b r p E D
  begun_left b r s x y p q E D k l more f low w two apart under e =
      let c : length (take k D) ≡ k = length-take-le k D (omega (arith, split_lt (length D) more)) in
      let z : both_roots H (length E) (length D) b r p ≡ Some (x, hash_node H y s) =
      ap (both_roots H (length E) (length D) b r) w ∙ both_left H (length E) (length D) k b r s q l f low ∙ ap (option_map (λ z. pair_left H z s)) two in
      let v = pair_parts (x, hash_node H y s) (mth_of_leaves H E, mth_of_leaves H D)
      (same_some (x, hash_node H y s) (mth_of_leaves H E, mth_of_leaves H D) (sym z ∙ e)) in
      let a = apart (v.1 ∙ halves D k more f) in
      under (ap (λ u. both_roots H (length E) u b r q) c ∙ two ∙ rw (v.0, a.0) refl)
      ∙ take-take (length E) k D low

  -- the old list extends into the right part
  pub begun_right : (b : Bool) (r t s x y : List ℕ) (p q E D : List (List ℕ)) (k : ℕ) → length E < length D → 1 < length E → split (length D) ≡ k
      → split (length E) ≡ k → k < length E
      → p ≡ q ++ s ∷ [] → both_roots H (length E - k) (length D - k) false t q ≡ Some (x, y)
      → NodesApart H s x (mth_of_leaves H (take k E)) (mth_of_leaves H (drop k E))
      → NodesApart H s y (mth_of_leaves H (take k D)) (mth_of_leaves H (drop k D))
      → SameRoot H (take k E) (take k D) → Begun H false t q (drop k E) (drop k D) → Begun H b r p E D
  begun_right b r t s x y p q E D k l more f g high w two apart_old apart_new left right e =
      let m : length (drop k E) ≡ length E - k = length-drop k E in
      let n : length (drop k D) ≡ length D - k = length-drop k D in
      let z : both_roots H (length E) (length D) b r p ≡ Some (hash_node H s x, hash_node H s y) =
      ap (both_roots H (length E) (length D) b r) w ∙ both_right H (length E) (length D) k b r t s q l f high ∙ ap (option_map (λ z. pair_right H z s)) two in
      let v = pair_parts (hash_node H s x, hash_node H s y) (mth_of_leaves H E, mth_of_leaves H D)
      (same_some (hash_node H s x, hash_node H s y) (mth_of_leaves H E, mth_of_leaves H D) (sym z ∙ e)) in
      let a = apart_old (v.0 ∙ halves E k more g) in
      let c = apart_new (v.1 ∙ halves D k (omega arith) f) in
      let h : take k E ≡ take k D = left (sym a.0 ∙ c.0) in
      let o : both_roots H (length (drop k E)) (length (drop k D)) false t q ≡ Some (x, y) = rw (m, n) two in
      let u : Some (x, y) ≡ Some (mth_of_leaves H (drop k E), mth_of_leaves H (drop k D)) = rw (a.1, c.1) refl in
      let i : drop k E ≡ take (length (drop k E)) (drop k D) = right (o ∙ u) in
      let j : k + (length E - k) ≡ length E = omega arith in
      parts_make k E (take (length E) D)
      (h ∙ sym (take-take k (length E) D (omega arith)))
      (i ∙ ap (λ u. take u (drop k D)) m ∙ sym (drop-take k (length E - k) D) ∙ ap (λ u. drop k (take u D)) j)
