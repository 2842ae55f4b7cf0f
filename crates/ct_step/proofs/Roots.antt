-- Two lists of hashes with one root are one list, or two of the strings that are hashed above them collide. S determines which strings
-- these are.
use Rattle.std.proofs.Common.{◌≡◌, ◌⊎◌, ◌∙◌, ℕ, zero, suc, ◌-◌, ◌<◌, ◌≤◌, List, [], ◌∷◌, ◌++◌, length, take, drop, sym, refl, ap, arith, inl, inr, ⊎_elim, length-drop}
use Rattle.std.proofs.lemmas.List.{length-take-le, take-append-drop}
use Rattle.std.proofs.lemmas.List.Elements.{All-nil, All-cons, All-head, All-take, All-drop}
use Rattle.ct_tree.proofs.Mth.{mth-nil, mth-one, mth-split_at}
use Rattle.ct_tree.proofs.Split.{split_pos, split_lt}
use Rattle.ct_tree.specs.Tree.{split, mth, hash_node}
use Rattle.ct_tiles.specs.Tiles.{lone_root}
use Rattle.ct_verify.specs.Laws.{AreHashes}
use Rattle.ct_verify.proofs.Agreeing.{left_nodes}
use Rattle.ct_verify.specs.Hashed.{CollideAmong}
use Rattle.ct_step.specs.EdgeStrings.{IsHashedAbove}
use Rattle.ct_step.specs.EdgeStrings.IsHashedAbove.{node, left, right}

abbrev pub has_32 : List ℕ → Type 0
has_32 x = length x ≡ 32

module _ (H : List ℕ → List ℕ) (long : (x : List ℕ) → length (H x) ≡ 32) where
  pub root_32 : (D : List (List ℕ)) → AreHashes D → length (mth H D) ≡ 32
  root_32 [] a = ap length (mth-nil H) ∙ long []
  root_32 (x ∷ []) a = ap length (mth-one H x) ∙ All-head has_32 x [] a
  root_32 (x ∷ y ∷ D) a = ap length (mth-split_at H (x ∷ y ∷ D) (split (length (x ∷ y ∷ D))) (omega arith) refl) ∙ long _

  module _ (S : List ℕ → Type 0) where
    -- S contains the strings that are hashed above the hashes
    abbrev pub HasAbove : List (List ℕ) → Type 0
    HasAbove D = (s : List ℕ) → IsHashedAbove H D s → S s

    tell_within : (fuel : ℕ) (E D : List (List ℕ)) → length D ≤ fuel → length E ≡ length D → AreHashes E → AreHashes D → HasAbove E → HasAbove D
        → mth H E ≡ mth H D → (E ≡ D) ⊎ CollideAmong H S
    tell_within fuel [] [] within l a b f g e = inl refl
    tell_within fuel [] (y ∷ D) within l a b f g e = absurd (omega (arith, l))
    tell_within fuel (x ∷ E) [] within l a b f g e = absurd (omega (arith, l))
    tell_within fuel (x ∷ []) (y ∷ []) within l a b f g e =
        inl (ap (λ (z : List ℕ). z ∷ []) (sym (mth-one H x) ∙ e ∙ mth-one H y))
    tell_within fuel (x ∷ []) (y ∷ z ∷ D) within l a b f g e = absurd (omega (arith, l))
    tell_within fuel (x ∷ w ∷ E) (y ∷ []) within l a b f g e = absurd (omega (arith, l))
    tell_within zero (x ∷ w ∷ E) (y ∷ z ∷ D) within l a b f g e = absurd (omega (arith, within))
    tell_within (suc fuel) (x ∷ w ∷ E) (y ∷ z ∷ D) within l a b f g e =
        halves fuel (λ X Y. tell_within fuel X Y) (x ∷ w ∷ E) (y ∷ z ∷ D) within (omega arith) l a b f g e
      where
        halves : (fuel : ℕ)
            → ((X Y : List (List ℕ)) → length Y ≤ fuel → length X ≡ length Y → AreHashes X → AreHashes Y → HasAbove X → HasAbove Y → mth H X ≡ mth H Y
            → (X ≡ Y) ⊎ CollideAmong H S)
            → (E D : List (List ℕ)) → length D ≤ suc fuel → 1 < length D → length E ≡ length D → AreHashes E → AreHashes D → HasAbove E → HasAbove D
            → mth H E ≡ mth H D → (E ≡ D) ⊎ CollideAmong H S
        halves fuel tell E D within more l a b f g e =
            let k = split (length D) in
            let positive : 0 < k = split_pos (length D) more in
            let below : k < length D = split_lt (length D) more in
            let also : 1 < length E = omega (arith, l, more) in
            let same_k : k ≡ split (length E) = ap split (sym l) in
            let i : length (take k E) ≡ k = length-take-le k E (omega arith) in
            let j : length (take k D) ≡ k = length-take-le k D (omega arith) in
            let u : length (drop k E) ≡ length E - k = length-drop k E in
            let v : length (drop k D) ≡ length D - k = length-drop k D in
            let over_e : mth H E ≡ hash_node H (mth H (take k E)) (mth H (drop k E)) = mth-split_at H E k also (ap split l) in
            let over_d : mth H D ≡ hash_node H (mth H (take k D)) (mth H (drop k D)) = mth-split_at H D k more refl in
            ⊎_elim
            (λ (same : (mth H (take k E) ≡ mth H (take k D)) × (mth H (drop k E) ≡ mth H (drop k D))).
            ⊎_elim
            (λ (one : take k E ≡ take k D).
            ⊎_elim
            (λ (other : drop k E ≡ drop k D).
            inl (sym (take-append-drop k E) ∙ ap (λ (z : List (List ℕ)). z ++ drop k E) one ∙ ap (λ (z : List (List ℕ)). take k D ++ z) other ∙ take-append-drop k D))
            (λ (found : CollideAmong H S). inr found)
            (tell (drop k E) (drop k D) (omega arith) (omega arith) (All-drop has_32 k E a) (All-drop has_32 k D b)
            (λ s h. f s (right E k s also same_k h)) (λ s h. g s (right D k s more refl h)) same.1))
            (λ (found : CollideAmong H S). inr found)
            (tell (take k E) (take k D) (omega arith) (omega arith) (All-take has_32 k E a) (All-take has_32 k D b)
            (λ s h. f s (left E k s also same_k h)) (λ s h. g s (left D k s more refl h)) same.0))
            (λ (found : CollideAmong H S). inr found)
            (left_nodes H S (mth H (take k E)) (mth H (drop k E)) (mth H (take k D)) (mth H (drop k D))
            (root_32 (take k E) (All-take has_32 k E a) ∙ sym (root_32 (take k D) (All-take has_32 k D b)))
            (f (1 ∷ mth H (take k E) ++ mth H (drop k E)) (node E k also same_k)) (g (1 ∷ mth H (take k D) ++ mth H (drop k D)) (node D k more refl))
            (sym over_e ∙ e ∙ over_d))

    -- two lists of the same length with the same root
    pub roots_tell : (E D : List (List ℕ)) → length E ≡ length D → AreHashes E → AreHashes D → HasAbove E → HasAbove D → mth H E ≡ mth H D
        → (E ≡ D) ⊎ CollideAmong H S
    roots_tell E D l a b f g e = tell_within (length D) E D (omega arith) l a b f g e

    pub lone_tells : (R T : List (List ℕ)) → length R ≡ length T → AreHashes R → AreHashes T → HasAbove R → HasAbove T → lone_root H R ≡ lone_root H T
        → (R ≡ T) ⊎ CollideAmong H S
    lone_tells [] [] l a b f g e = inl refl
    lone_tells [] (y ∷ T) l a b f g e = absurd (omega (arith, l))
    lone_tells (x ∷ R) [] l a b f g e = absurd (omega (arith, l))
    lone_tells (x ∷ R) (y ∷ T) l a b f g e =
        roots_tell (x ∷ R) (y ∷ T) l a b f g (same_head (mth H (x ∷ R)) (mth H (y ∷ T)) e)
      where
        same_head : (p q : List ℕ) → p ∷ [] ≡ q ∷ [] → p ≡ q
        same_head p q e = cc

  pub length-lone : (R S : List (List ℕ)) → length R ≡ length S → length (lone_root H R) ≡ length (lone_root H S)
  length-lone [] [] l = refl
  length-lone [] (y ∷ S) l = absurd (omega (arith, l))
  length-lone (x ∷ R) [] l = absurd (omega (arith, l))
  length-lone (x ∷ R) (y ∷ S) l = refl

  pub lone_32 : (R : List (List ℕ)) → AreHashes R → AreHashes (lone_root H R)
  lone_32 [] a = a
  lone_32 (x ∷ R) a = All-cons has_32 (mth H (x ∷ R)) [] (root_32 (x ∷ R) a) (All-nil has_32)
