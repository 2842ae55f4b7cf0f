-- The listed tiles have everything that the walk reads.
use Rattle.std.proofs.Common.{◌≡◌, ℕ, zero, suc, ◌+◌, ◌-◌, ◌*◌, ◌/◌, ◌%◌, ◌^◌, ◌<◌, ◌≤◌, refl, subst, sym, ◌∙◌, ap, arith, cond, ltb, nat_eq, List, [], ◌∷◌, ◌++◌, length, take, drop, inl, inr, ⊎_elim}
use Rattle.std.specs.Prelude.{◌⊎◌, All}
use Rattle.std.proofs.lemmas.Bool.{cases_lt, lt-ltb, le-ltb, cond-true, cond-false, eq-eqb}
use Rattle.std.proofs.lemmas.List.Elements.{All-nil, All-cons, All-head, All-tail}
use Rattle.std.proofs.lemmas.Nat.{pow-add, div-mul-add}
use Rattle.std.proofs.Math.Nat.{pow-suc, mul_comm, mul-le-mul_right, pow-le-pow_right, div-div-eq-div-mul, div-mul-le_self, lt-div-mul-add}
use Rattle.ct_tree.specs.Tree.{mth}
use Rattle.ct_tree.specs.Walk.{IsEdgeNode, IsPathNode, IsProofNode}
use Rattle.ct_tree.proofs.WalkReads.{over_up}
use Rattle.ct_tiles.proofs.Words.{powers, pow_some}
use Rattle.ct_tiles.specs.declared.needed.NeededTile.{NeededTile}
use Rattle.ct_tiles.specs.Given.{GivesNodeOf}
use Rattle.ct_tiles.specs.Needed.{tile_at, level_tiles, tiles_from, GivesTile}
use Rattle.ct_tiles.proofs.Subtrees.{inside_last, edge_within}

-- ---- numbers
parts : (level : ℕ) → 2 ^ level ≡ 2 ^ (level % 8) * 256 ^ (level / 8)
parts level =
    let e : level ≡ level % 8 + 8 * (level / 8) = omega arith in
    ap (λ (n : ℕ). 2 ^ n) e ∙ pow-add 2 (level % 8) (8 * (level / 8)) ∙ ap (λ (n : ℕ). 2 ^ (level % 8) * n) (powers (level / 8))

down : (x level : ℕ) → x / 2 ^ level ≡ x / 256 ^ (level / 8) / 2 ^ (level % 8)
down x level =
    ap (λ (w : ℕ). x / w) (parts level ∙ mul_comm (2 ^ (level % 8)) (256 ^ (level / 8))) ∙ sym (div-div-eq-div-mul x (256 ^ (level / 8)) (2 ^ (level % 8)))

down_one : (x level : ℕ) → x / 2 ^ (level + 1) ≡ x / 256 ^ (level / 8) / 2 ^ (level % 8 + 1)
down_one x level = over_up x level ∙ ap (λ (u : ℕ). u / 2) (down x level) ∙ sym (over_up (x / 256 ^ (level / 8)) (level % 8))

to_block : (x y r : ℕ) → r < 8 → x / 2 ^ (r + 1) ≡ y / 2 ^ (r + 1) → x / 256 ≡ y / 256
to_block x y r h e = sym (whole x) ∙ ap (λ (u : ℕ). u / 2 ^ (7 - r)) e ∙ whole y
  where
    width : 2 ^ (r + 1) * 2 ^ (7 - r) ≡ 256
    width =
        let k : r + 1 + (7 - r) ≡ 8 = omega (arith, h) in
        sym (pow-add 2 (r + 1) (7 - r)) ∙ ap (λ (n : ℕ). 2 ^ n) k

    whole : (z : ℕ) → z / 2 ^ (r + 1) / 2 ^ (7 - r) ≡ z / 256
    whole z = div-div-eq-div-mul z (2 ^ (r + 1)) (2 ^ (7 - r)) ∙ ap (λ (w : ℕ). z / w) width

in_node : (r index i : ℕ) → index * 2 ^ r ≤ i → i < (index + 1) * 2 ^ r → i / 2 ^ (r + 1) ≡ index / 2
in_node r index i a b =
    let e : index * 2 ^ r + (i - index * 2 ^ r) ≡ i = omega (arith, a) in
    let s : i - index * 2 ^ r < 2 ^ r = omega (arith, a, b) in
    let c : i / 2 ^ r ≡ index = ap (λ (u : ℕ). u / 2 ^ r) (sym e) ∙ div-mul-add index (2 ^ r) (i - index * 2 ^ r) s in
    over_up i r ∙ ap (λ (u : ℕ). u / 2) c

below_last : (L r index i : ℕ) → index + 1 ≤ L / 2 ^ r → i < (index + 1) * 2 ^ r → i < L
below_last L r index i h b =
    let a : (index + 1) * 2 ^ r ≤ L / 2 ^ r * 2 ^ r = mul-le-mul_right (2 ^ r) h in
    omega (arith, a, b, div-mul-le_self L (2 ^ r))

div_mono : (a b w : ℕ) → 0 < w → a ≤ b → a / w ≤ b / w
div_mono a b w p h = ⊎_elim
    (λ (c : b / w < a / w).
    let more : b / w + 1 ≤ a / w = omega (arith, c) in
    let d : (b / w + 1) * w ≤ a / w * w = mul-le-mul_right w more in
    absurd (omega (arith, d, h, div-mul-le_self a w, lt-div-mul-add {a = b} {b = w} p)))
    (λ (c : a / w ≤ b / w). c)
    (cases_lt (b / w) (a / w))

pow_positive : (t : ℕ) → 0 < 256 ^ t
pow_positive t = subst (λ (u : ℕ). 0 < u) (powers t) (pow_some (8 * t))

few_levels : (index level n : ℕ) → (index + 1) * 2 ^ level ≤ n → n < 2 ^ 64 → level / 8 < 8
few_levels index level n h s = ⊎_elim
    (λ (c : level < 64). omega (arith, c))
    (λ (c : 64 ≤ level).
    let d : 2 ^ 64 ≤ 2 ^ level = pow-le-pow_right (omega arith) c in
    absurd (omega (arith, d, h, s)))
    (cases_lt level 64)

half_same : (index u : ℕ) → index + 1 ≡ u → u % 2 ≡ 1 → index / 2 ≡ u / 2
half_same index u e o = omega (arith, e, o)

at_zero : (x t : ℕ) → t ≡ 0 → x / 256 ^ t ≡ x
at_zero x t e =
    let one : x / 256 ^ 0 ≡ x = omega arith in
    ap (λ (u : ℕ). x / 256 ^ u) e ∙ one

-- ---- lists
all_left : (P : NeededTile → Type 0) (xs ys : List NeededTile) → All P (xs ++ ys) → All P xs
all_left P [] ys a = All-nil P
all_left P (x ∷ xs) ys a = All-cons P x xs (All-head P x (xs ++ ys) a) (all_left P xs ys (All-tail P x (xs ++ ys) a))

all_right : (P : NeededTile → Type 0) (xs ys : List NeededTile) → All P (xs ++ ys) → All P ys
all_right P [] ys a = a
all_right P (x ∷ xs) ys a = all_right P xs ys (All-tail P x (xs ++ ys) a)

same_tiles : (t u a b c d e f g h : ℕ) → t ≡ u → a ≡ b → c ≡ d → e ≡ f → g ≡ h → level_tiles t a c e g ≡ level_tiles u b d f h
same_tiles t u a b c d e f g h i j k l m =
    ap (λ x. level_tiles x a c e g) i
    ∙ ap (λ x. level_tiles u x c e g) j
    ∙ ap (λ x. level_tiles u b x e g) k
    ∙ ap (λ x. level_tiles u b d x g) l
    ∙ ap (λ x. level_tiles u b d f x) m

shift : (x k : ℕ) → x / 256 / 256 ^ k ≡ x / 256 ^ suc k
shift x k = div-div-eq-div-mul x 256 (256 ^ k) ∙ ap (λ (w : ℕ). x / w) (mul_comm 256 (256 ^ k) ∙ sym (pow-suc 256 k))

at_level : (P : NeededTile → Type 0) (k count level f o l s : ℕ) → k < count → All P (tiles_from count level f o l s)
    → All P (level_tiles (level + k) (f / 256 ^ k) (o / 256 ^ k) (l / 256 ^ k) (s / 256 ^ k))
unfolding tiles_from
at_level P zero zero level f o l s h a = absurd (omega (arith, h))
at_level P (suc k) zero level f o l s h a = absurd (omega (arith, h))
at_level P zero (suc count) level f o l s h a =
    let z : level ≡ level + 0 = omega arith in
    subst (All P)
    (same_tiles level (level + 0) f (f / 256 ^ 0) o (o / 256 ^ 0) l (l / 256 ^ 0) s (s / 256 ^ 0) z (sym (at_zero f 0 refl)) (sym (at_zero o 0 refl))
    (sym (at_zero l 0 refl)) (sym (at_zero s 0 refl)))
    (all_left P (level_tiles level f o l s) (tiles_from count (level + 1) (f / 256) (o / 256) (l / 256) (s / 256)) a)
at_level P (suc k) (suc count) level f o l s h a =
    let z : level + 1 + k ≡ level + suc k = omega arith in
    let less : k < count = omega (arith, h) in
    subst (All P)
    (same_tiles (level + 1 + k) (level + suc k) (f / 256 / 256 ^ k) (f / 256 ^ suc k) (o / 256 / 256 ^ k) (o / 256 ^ suc k) (l / 256 / 256 ^ k) (l / 256 ^ suc k)
    (s / 256 / 256 ^ k) (s / 256 ^ suc k) z (shift f k) (shift o k) (shift l k) (shift s k))
    (at_level P k count (level + 1) (f / 256) (o / 256) (l / 256) (s / 256) less
    (all_right P (level_tiles level f o l s) (tiles_from count (level + 1) (f / 256) (o / 256) (l / 256) (s / 256)) a))

-- ---- a hash of a listed tile
abbrev IsGiven : (List ℕ → List ℕ) → (ℕ → ℕ → List ℕ) → List (List ℕ) → ℕ → ℕ → Type 0
IsGiven H given D level i = given level i ≡ mth H (take (256 ^ level) (drop (256 ^ level * i) D))

narrow : (size x i : ℕ) → i / 256 ≡ x → i < size → i % 256 < cond (ltb (size - 256 * x) 256) (size - 256 * x) 256
narrow size x i e h = ⊎_elim
    (λ (b : size - 256 * x < 256).
    subst (λ (u : ℕ). i % 256 < u) (sym (cond-true (ltb (size - 256 * x) 256) (size - 256 * x) 256 (lt-ltb (size - 256 * x) 256 b))) (omega (arith, e, h)))
    (λ (b : 256 ≤ size - 256 * x).
    subst (λ (u : ℕ). i % 256 < u) (sym (cond-false (ltb (size - 256 * x) 256) (size - 256 * x) 256 (le-ltb (size - 256 * x) 256 b))) (omega arith))
    (cases_lt (size - 256 * x) 256)

module _ (H : List ℕ → List ℕ) (given : ℕ → ℕ → List ℕ) (D : List (List ℕ)) where
  hit : (level size x i : ℕ) → i / 256 ≡ x → i < size → GivesTile H given D (tile_at level x size) → IsGiven H given D level i
  hit level size x i e h p =
      let a : 256 * x + i % 256 ≡ i = omega (arith, e) in
      subst (λ (u : ℕ). IsGiven H given D level u) a (p (i % 256) (narrow size x i e h))

  last_in : (level first own last size i : ℕ) → i / 256 ≡ last / 256 → i < size → (level ≡ 0) ⊎ (i < last)
      → All (GivesTile H given D) (level_tiles level first own last size) → IsGiven H given D level i
  last_in level first own last size i e h w a =
      let P = GivesTile H given D in
      let t = tile_at level (last / 256) size in
      let own_one = cond (ltb (own / 256) (last / 256)) (cond (nat_eq (first / 256) (own / 256)) (tile_at level (own / 256) size ∷ []) []) [] in
      let lone = cond (nat_eq level 0) (t ∷ []) [] in
      let b = all_right P own_one (cond (ltb 0 (last % 256)) (t ∷ []) lone) a in
      let one : All P (t ∷ []) = ⊎_elim
      (λ (z : 0 < last % 256). subst (All P) (cond-true (ltb 0 (last % 256)) (t ∷ []) lone (lt-ltb 0 (last % 256) z)) b)
      (λ (z : last % 256 ≤ 0). ⊎_elim
      (λ (o : level ≡ 0).
      subst (All P) (cond-false (ltb 0 (last % 256)) (t ∷ []) lone (le-ltb 0 (last % 256) z) ∙ cond-true (nat_eq level 0) (t ∷ []) [] (ap (λ (u : ℕ). nat_eq u 0) o)) b)
      (λ (o : i < last). absurd (omega (arith, z, o, e)))
      w)
      (cases_lt 0 (last % 256)) in
      hit level size (last / 256) i e h (All-head P t [] one)

  own_in : (level first own last size i : ℕ) → i / 256 ≡ own / 256 → own / 256 < last / 256 → first / 256 ≡ own / 256 → i < size
      → All (GivesTile H given D) (level_tiles level first own last size) → IsGiven H given D level i
  own_in level first own last size i e h f s a =
      let P = GivesTile H given D in
      let t = tile_at level (own / 256) size in
      let inner = cond (nat_eq (first / 256) (own / 256)) (t ∷ []) [] in
      let l = tile_at level (last / 256) size in
      let b = all_left P (cond (ltb (own / 256) (last / 256)) inner []) (cond (ltb 0 (last % 256)) (l ∷ []) (cond (nat_eq level 0) (l ∷ []) [])) a in
      let one : All P (t ∷ []) =
      subst (All P) (cond-true (ltb (own / 256) (last / 256)) inner [] (lt-ltb (own / 256) (last / 256) h)
      ∙ cond-true (nat_eq (first / 256) (own / 256)) (t ∷ []) [] (eq-eqb (first / 256) (own / 256) f)) b in
      hit level size (own / 256) i e s (All-head P t [] one)

  edge_hash : (n level index i f o : ℕ) → IsEdgeNode n level index → index * 2 ^ (level % 8) ≤ i → i < (index + 1) * 2 ^ (level % 8) → level / 8 < 8
      → All (GivesTile H given D) (tiles_from 8 0 f o (n - 1) n) → IsGiven H given D (level / 8) i
  edge_hash n level index i f o kind a b few all =
      let t = level / 8 in
      let r = level % 8 in
      let L = (n - 1) / 256 ^ t in
      let z : 0 + t ≡ t = omega arith in
      let here = at_level (GivesTile H given D) t 8 0 f o (n - 1) n few all in
      let small : r < 8 = omega arith in
      subst (λ (u : ℕ). IsGiven H given D u i) z
      (elim kind [
        | inl x ↦
            let tz : level / 8 ≡ 0 = omega (arith, x.0) in
            let rz : level % 8 ≡ 0 = omega (arith, x.0) in
            let one : 2 ^ (level % 8) ≡ 1 = ap (λ (k : ℕ). 2 ^ k) rz in
            let c : index * 1 ≤ i = subst (λ (w : ℕ). index * w ≤ i) one a in
            let d : i < (index + 1) * 1 = subst (λ (w : ℕ). i < (index + 1) * w) one b in
            let el : (n - 1) / 256 ^ (level / 8) ≡ n - 1 = at_zero (n - 1) (level / 8) tz in
            let es : n / 256 ^ (level / 8) ≡ n = at_zero n (level / 8) tz in
            let ze : 0 + level / 8 ≡ 0 = omega (arith, tz) in
            let i_is : i ≡ n - 1 = omega (arith, c, d, x.1) in
            last_in (0 + level / 8) (f / 256 ^ (level / 8)) (o / 256 ^ (level / 8)) ((n - 1) / 256 ^ (level / 8)) (n / 256 ^ (level / 8)) i
            (ap (λ (u : ℕ). u / 256) (i_is ∙ sym el)) (omega (arith, d, es, x.1)) (inl ze) here
        | inr x ↦
            let q : index + 1 ≡ L / 2 ^ r = x.1 ∙ down (n - 1) level in
            let odd : L / 2 ^ r % 2 ≡ 1 = ap (λ (u : ℕ). u % 2) (sym (down (n - 1) level)) ∙ x.0 in
            let under : i < L = below_last L r index i (omega (arith, q)) b in
            let block : i / 256 ≡ L / 256 = to_block i L r small (in_node r index i a b ∙ half_same index (L / 2 ^ r) q odd ∙ sym (over_up L r)) in
            let sizes = div_mono (n - 1) n (256 ^ t) (pow_positive t) (omega arith) in
            last_in (0 + t) (f / 256 ^ t) (o / 256 ^ t) L (n / 256 ^ t) i block (omega (arith, under, sizes)) (inr under) here
      ])

  pair_hash : (n level index i f o : ℕ) → index < (n - 1) / 2 ^ level → index / 2 ≡ o / 2 ^ (level + 1) → f / 2 ^ (level + 1) ≡ o / 2 ^ (level + 1)
      → index * 2 ^ (level % 8) ≤ i → i < (index + 1) * 2 ^ (level % 8) → level / 8 < 8
      → All (GivesTile H given D) (tiles_from 8 0 f o (n - 1) n) → IsGiven H given D (level / 8) i
  pair_hash n level index i f o h e k a b few all =
      let t = level / 8 in
      let r = level % 8 in
      let L = (n - 1) / 256 ^ t in
      let M = o / 256 ^ t in
      let F = f / 256 ^ t in
      let z : 0 + t ≡ t = omega arith in
      let here = at_level (GivesTile H given D) t 8 0 f o (n - 1) n few all in
      let small : r < 8 = omega arith in
      let before : index < L / 2 ^ r = subst (λ (u : ℕ). index < u) (down (n - 1) level) h in
      let under : i < L = below_last L r index i (omega (arith, before)) b in
      let sizes = div_mono (n - 1) n (256 ^ t) (pow_positive t) (omega arith) in
      let inside : i < n / 256 ^ t = omega (arith, under, sizes) in
      let block : i / 256 ≡ M / 256 = to_block i M r small (in_node r index i a b ∙ e ∙ down_one o level) in
      let both : F / 256 ≡ M / 256 = to_block F M r small (sym (down_one f level) ∙ k ∙ down_one o level) in
      subst (λ (u : ℕ). IsGiven H given D u i) z
      (⊎_elim
      (λ (c : M / 256 < L / 256). own_in (0 + t) F M L (n / 256 ^ t) i block c both inside here)
      (λ (c : L / 256 ≤ M / 256).
      let same : i / 256 ≡ L / 256 = omega (arith, c, block, under) in
      last_in (0 + t) F M L (n / 256 ^ t) i same inside (inr under) here)
      (cases_lt (M / 256) (L / 256)))

  pub edge_given : (n f o level index : ℕ) → n < 2 ^ 64 → n ≤ length D → All (GivesTile H given D) (tiles_from 8 0 f o (n - 1) n) → IsEdgeNode n level index
      → GivesNodeOf H given D level index
  edge_given n f o level index s l all kind =
      let w = edge_within n level index kind in
      record {
        within = omega (arith, w, l);
        hash = λ i a b. edge_hash n level index i f o kind a b (few_levels index level n w s) all;
      }

  pair_given : (n f o level index : ℕ) → n < 2 ^ 64 → n ≤ length D → All (GivesTile H given D) (tiles_from 8 0 f o (n - 1) n)
      → index < (n - 1) / 2 ^ level → index / 2 ≡ o / 2 ^ (level + 1) → f / 2 ^ (level + 1) ≡ o / 2 ^ (level + 1) → GivesNodeOf H given D level index
  pair_given n f o level index s l all h e k =
      let w = inside_last n level (index + 1) (omega (arith, h)) in
      record {
        within = omega (arith, w, l);
        hash = λ i a b. pair_hash n level index i f o h e k a b (few_levels index level n w s) all;
      }

  pub path_given : (m n level index : ℕ) → n < 2 ^ 64 → n ≤ length D → All (GivesTile H given D) (tiles_from 8 0 m m (n - 1) n) → IsPathNode m n level index
      → GivesNodeOf H given D level index
  path_given m n level index s l all = elim [
    | inl x ↦ edge_given n m m level index s l all x
    | inr x ↦ pair_given n m m level index s l all x.0 x.1 refl
  ]

  pub proof_given : (m n level index : ℕ) → n < 2 ^ 64 → n ≤ length D → All (GivesTile H given D) (tiles_from 8 0 m (m - 1) (n - 1) n)
      → IsProofNode m n level index → GivesNodeOf H given D level index
  proof_given m n level index s l all = elim [
    | inl x ↦ edge_given n m (m - 1) level index s l all x
    | inr x ↦ pair_given n m (m - 1) level index s l all x.1 x.2 x.0
  ]
