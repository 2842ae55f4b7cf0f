-- A SUBTREE_PROOF rebuilds the hash of the subtree and the root.
use Rattle.std.proofs.Common.{◌≡◌, ℕ, zero, suc, ◌+◌, ◌-◌, ◌<◌, ◌≤◌, cond, Bool, true, false, refl, sym, ◌∙◌, ap, arith, List, [], ◌∷◌, length, take, drop, get_or, Some, length-drop}
use Rattle.std.specs.Option.{option_map}
use Rattle.std.proofs.lemmas.List.{length-take-le, take-take, drop-take, take_all, get_or-take, get_or-drop}
use Rattle.ct_tree.proofs.Split.{split_is, split_lt, split_half, split_induct}
use Rattle.ct_tree.proofs.Mth.{mth-split_at}
use Rattle.ct_tree.specs.Tree.{split, hash_node, mth, path}
use Rattle.ct_verify.proofs.Equations.{path_rebuilds}
use Rattle.ct_verify.proofs.RebuildLaws.{first_root}
use Rattle.ct_verify.specs.Climb.{pair_left, pair_right}
use Rattle.ct_verify.specs.Rebuild.{rebuild}
use Rattle.ct_subtrees.specs.Subtrees.{IsSubtree, slice, subtree_hash, subtree_subproof, is_whole}
use Rattle.ct_subtrees.specs.Roots.{subtree_roots}
use Rattle.ct_subtrees.proofs.Whole.{Part, all, first_part, second_part, both_parts, part, whole_is, subtree_right, subtree_both, subtree_first, first_ends}
use Rattle.ct_subtrees.proofs.Down.{pair_beyond, roots-known, roots-given, roots-left, roots-right, roots-both, any_known}
use Rattle.ct_subtrees.proofs.Subproof.{subtree-whole, subtree-left, subtree-right, subtree-both}

-- ---- slices of the two parts
pub drop-drop : {X : Type 0} (k m : ℕ) (D : List X) → drop m (drop k D) ≡ drop (k + m) D
drop-drop zero m D = let e : 0 + m ≡ m = omega arith in rw e refl
drop-drop (suc k) m [] = let e : suc k + m ≡ suc (k + m) = omega arith in rw e (drop_none m)
  where
    drop_none : {X : Type 0} (m : ℕ) → drop {A = X} m [] ≡ []
    drop_none zero = refl
    drop_none (suc m) = refl
drop-drop (suc k) m (x ∷ D) = let e : suc k + m ≡ suc (k + m) = omega arith in rw e (drop-drop k m D)

pub slice_left : {X : Type 0} (s e k : ℕ) (D : List X) → e ≤ k → slice s e (take k D) ≡ slice s e D
slice_left s e k D l = ap (drop s) (take-take e k D l)

pub slice_right : {X : Type 0} (s e k : ℕ) (D : List X) → k ≤ s → s < e → slice (s - k) (e - k) (drop k D) ≡ slice s e D
slice_right s e k D l i =
    let f : k + (e - k) ≡ e = omega arith in
    let g : k + (s - k) ≡ s = omega arith in
    ap (drop (s - k)) (sym (drop-take k (e - k) D) ∙ ap (λ v. drop k (take v D)) f)
    ∙ drop-drop k (s - k) (take e D)
    ∙ ap (λ v. drop v (take e D)) g

pub slice_first : {X : Type 0} (s e : ℕ) (D : List X) → s ≡ 0 → slice s e D ≡ take e D
slice_first s e D z = rw z refl

pub slice_length : {X : Type 0} (s e : ℕ) (D : List X) → s ≤ e → e ≤ length D → length (slice s e D) ≡ e - s
slice_length s e D l i = length-drop s (take e D) ∙ ap (λ v. v - s) (length-take-le e D i)

pub slice_get : {X : Type 0} (i s e : ℕ) (D : List X) (d : X) → s ≤ i → i < e → get_or (slice s e D) (i - s) d ≡ get_or D i d
slice_get i s e D d l j =
    let f : s + (i - s) ≡ i = omega arith in
    get_or-drop s (take e D) (i - s) d ∙ ap (λ v. get_or (take e D) v d) f ∙ get_or-take e D i d j

module _ (H : List ℕ → List ℕ) where
  abbrev Rebuilds : ℕ → Type 0
  Rebuilds n =
      (s e : ℕ) (D : List (List ℕ)) (b : Bool) → length D ≡ n → IsSubtree s e → e ≤ n
      → subtree_roots H s e n b (subtree_hash H s e D) (subtree_subproof H s e D b) ≡ Some (subtree_hash H s e D, mth H D)

  whole_roots : (s e n : ℕ) (b : Bool) (x : List ℕ) → is_whole s e n ≡ true → subtree_roots H s e n b x (cond b [] (x ∷ [])) ≡ Some (x, x)
  whole_roots s e n true x w = roots-known H s e n x w
  whole_roots s e n false x w = roots-given H s e n x x w

  part_rebuilds : (n : ℕ) → (1 < n → Rebuilds (split n)) → (1 < n → Rebuilds (n - split n)) → (s e : ℕ) (D : List (List ℕ)) (b : Bool)
      → length D ≡ n → IsSubtree s e → e ≤ n → Part s e n
      → subtree_roots H s e n b (subtree_hash H s e D) (subtree_subproof H s e D b) ≡ Some (subtree_hash H s e D, mth H D)
  part_rebuilds n below_left below_right s e D b j t i (all z f) =
      let x : subtree_hash H s e D ≡ mth H D = ap (mth H) (slice_first s e D z ∙ take_all e D (omega arith)) in
      rw (x, subtree-whole H s e D b t.0 z (omega arith)) (whole_roots s e n b (mth H D) (whole_is s e n z (omega arith)))
  part_rebuilds n below_left below_right s e D b j t i (first_part m w low) =
      let k = split n in
      let c = mth H (drop k D) in
      let f : split (length D) ≡ k = ap split j in
      let x : subtree_hash H s e (take k D) ≡ subtree_hash H s e D = ap (mth H) (slice_left s e k D low) in
      let y = below_left m s e (take k D) b (length-take-le k D (omega (arith, split_lt n m))) t low in
      ap (subtree_roots H s e n b (subtree_hash H s e D)) (subtree-left H s e k D b t.0 (omega arith) (omega arith) (ap (is_whole s e) j ∙ w) f low)
      ∙ roots-left H s e n k b (subtree_hash H s e D) c (subtree_subproof H s e (take k D) b) w refl low
      ∙ ap (option_map (λ z. pair_left H z c))
      (ap (λ v. subtree_roots H s e k b v (subtree_subproof H s e (take k D) b)) (sym x) ∙ y ∙ ap (λ v. Some (v, mth H (take k D))) x)
      ∙ ap (λ v. Some (subtree_hash H s e D, v)) (sym (mth-split_at H D k (omega arith) f))
  part_rebuilds n below_left below_right s e D b j t i (second_part m w high) =
      let k = split n in
      let c = mth H (take k D) in
      let f : split (length D) ≡ k = ap split j in
      let x : subtree_hash H (s - k) (e - k) (drop k D) ≡ subtree_hash H s e D = ap (mth H) (slice_right s e k D high t.0) in
      let u = subtree_right s e k t (split_is n m).power high (omega (arith, t.0, split_half n m)) in
      let y = below_right m (s - k) (e - k) (drop k D) b (omega (arith, length-drop k D)) u (omega arith) in
      let q = subtree_subproof H (s - k) (e - k) (drop k D) b in
      ap (subtree_roots H s e n b (subtree_hash H s e D)) (subtree-right H s e k D b t.0 (omega arith) (omega arith) (ap (is_whole s e) j ∙ w) f high)
      ∙ roots-right H s e n k b (subtree_hash H s e D) c q w refl high t.0
      ∙ ap (option_map (λ z. pair_beyond H z c))
      (ap (λ v. subtree_roots H (s - k) (e - k) (n - k) b v q) (sym x) ∙ y ∙ ap (λ v. Some (v, mth H (drop k D))) x)
      ∙ ap (λ v. Some (subtree_hash H s e D, v)) (sym (mth-split_at H D k (omega arith) f))
  part_rebuilds n below_left below_right s e D b j t i (both_parts m w before over) =
      let k = split n in
      let c = mth H (take k D) in
      let f : split (length D) ≡ k = ap split j in
      let z : s ≡ 0 = subtree_both s e k t (split_is n m).power before over in
      let less : e < length D = omega (arith, j, first_ends s e n z w) in
      let r = subtree_hash H 0 (e - k) (drop k D) in
      let x : subtree_hash H s e D ≡ hash_node H c r = ap (mth H) (slice_first s e D z) ∙ first_root H e k D f over less in
      let y = below_right m 0 (e - k) (drop k D) false (omega (arith, length-drop k D)) (subtree_first (e - k) (omega arith)) (omega arith) in
      let q = subtree_subproof H 0 (e - k) (drop k D) false in
      ap (subtree_roots H s e n b (subtree_hash H s e D)) (subtree-both H s e k D b t.0 (omega arith) (omega arith) (ap (is_whole s e) j ∙ w) f before over)
      ∙ roots-both H s e n k b (subtree_hash H s e D) c q w refl before over
      ∙ ap (option_map (λ z. pair_right H z c)) (any_known H 0 (e - k) (n - k) (subtree_hash H s e D) r q ∙ y)
      ∙ ap (λ v. Some (hash_node H c r, v)) (sym (mth-split_at H D k (omega arith) f))
      ∙ ap (λ v. Some (v, mth H D)) (sym x)

  pub rebuilds : (n : ℕ) → Rebuilds n
  rebuilds =
      split_induct Rebuilds
      (λ s e D b j t i. absurd (omega (arith, t.0)))
      (λ s e D b j t i. part_rebuilds 1 (λ m. absurd (omega arith)) (λ m. absurd (omega arith)) s e D b j t i (part s e 1 t.0 i))
      (λ n m below_left below_right s e D b j t i. part_rebuilds n (λ _. below_left) (λ _. below_right) s e D b j t i (part s e n t.0 i))

  pub path_evaluates : (i s e : ℕ) (D : List (List ℕ)) → s ≤ i → i < e → e ≤ length D
      → rebuild H (i - s) (e - s) (get_or D i []) (path H (i - s) (slice s e D)) ≡ Some (mth H (slice s e D))
  path_evaluates i s e D l j within =
      let n : length (slice s e D) ≡ e - s = slice_length s e D (omega arith) within in
      let inside : i - s < length (slice s e D) = omega arith in
      rw (sym n, sym (slice_get i s e D [] l j)) (path_rebuilds H (i - s) (slice s e D) inside)
