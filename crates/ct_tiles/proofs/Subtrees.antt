-- Perfect subtrees as MTH of their leaves.
use Rattle.std.proofs.Common.{◌≡◌, ℕ, zero, suc, ◌+◌, ◌-◌, ◌*◌, ◌/◌, ◌%◌, ◌^◌, ◌<◌, ◌≤◌, refl, sym, ◌∙◌, ap, arith, List, [], length, take, drop, get_or, length-drop, subst}
use Rattle.std.proofs.Common.{inl, inr}
use Rattle.std.proofs.lemmas.List.{drop-drop, length-take-le, take-take, drop-take, drop_more}
use Rattle.std.proofs.lemmas.Nat.{pow-add}
use Rattle.std.proofs.Math.Nat.{pow-suc, mul-le-mul_left, mul-le-mul_right, mul_assoc, div-mul-le_self}
use Rattle.ct_tree.specs.Tree.{split, hash_node, mth}
use Rattle.ct_tree.specs.Levels.{subtree}
use Rattle.ct_tree.specs.Walk.{IsEdgeNode, IsPathNode, IsProofNode}
use Rattle.ct_tiles.specs.Given.{GivesTilesOf, GivesNodeOf}
use Rattle.ct_tree.proofs.Mth.{mth-one, mth-split_at}
use Rattle.ct_tree.proofs.Split.{split_is, split_unique}
use Rattle.ct_tiles.proofs.Words.{powers, pow_some}

split_double : (j : ℕ) → split (2 * 2 ^ j) ≡ 2 ^ j
split_double j =
    let p = pow_some j in
    split_unique (2 * 2 ^ j) (split (2 * 2 ^ j)) (2 ^ j) (split_is (2 * 2 ^ j) (omega (arith, p)))
    (record { power = record { exponent = j; is = refl }; below = omega (arith, p); half = omega arith })

-- one leaf
pub one_leaf : (H : List ℕ → List ℕ) (i : ℕ) (D : List (List ℕ)) → i < length D → mth H (take 1 (drop (1 * i) D)) ≡ get_or D i []
one_leaf H i D h =
    let e : 1 * i ≡ i = omega arith in
    ap (λ n. mth H (take 1 (drop n D))) e ∙ ap (λ x. mth H (take 1 x)) (drop_more D i [] h) ∙ mth-one H (get_or D i [])

-- two halves of w leaves
halves : (H : List ℕ → List ℕ) (w i : ℕ) (D : List (List ℕ)) → 0 < w → split (2 * w) ≡ w → (i + 1) * (2 * w) ≤ length D
    → mth H (take (2 * w) (drop ((2 * w) * i) D)) ≡ hash_node H (mth H (take w (drop (w * (2 * i)) D))) (mth H (take w (drop (w * (2 * i + 1)) D)))
halves H w i D p s h =
    let Y = drop ((2 * w) * i) D in
    let X = take (2 * w) Y in
    let size : length X ≡ 2 * w = length-take-le (2 * w) Y (omega (arith, length-drop ((2 * w) * i) D)) in
    let double : 2 * w ≡ w + w = omega arith in
    let left : take w X ≡ take w Y = take-take w (2 * w) Y (omega arith) in
    let right : drop w X ≡ take w (drop w Y) = ap (λ n. drop w (take n Y)) double ∙ drop-take w w Y in
    let a : (2 * w) * i ≡ w * (2 * i) = omega arith in
    let b : (2 * w) * i + w ≡ w * (2 * i + 1) = omega arith in
    let both = mth-split_at H X w (omega (arith, size, p)) (ap split size ∙ s) in
    both
    ∙ ap (λ l. hash_node H (mth H l) (mth H (drop w X))) (left ∙ ap (λ n. take w (drop n D)) a)
    ∙ ap (λ r. hash_node H (mth H (take w (drop (w * (2 * i)) D))) (mth H r)) (right ∙ ap (take w) (drop-drop w ((2 * w) * i) D ∙ ap (λ n. drop n D) b))

inside_left : (w i n : ℕ) → (i + 1) * (2 * w) ≤ n → (2 * i + 1) * w ≤ n
inside_left w i n h = omega arith

inside_right : (w i n : ℕ) → (i + 1) * (2 * w) ≤ n → (2 * i + 1 + 1) * w ≤ n
inside_right w i n h = omega arith

twice : (j : ℕ) → 2 ^ suc j ≡ 2 * 2 ^ j
twice j = omega (arith, pow-suc 2 j)

-- a perfect subtree's root is MTH of its leaves
pub subtree_is_mth : (H : List ℕ → List ℕ) (j i : ℕ) (D : List (List ℕ)) → (i + 1) * 2 ^ j ≤ length D
    → subtree H j i D ≡ mth H (take (2 ^ j) (drop (2 ^ j * i) D))
unfolding subtree
subtree_is_mth H zero i D h = sym (one_leaf H i D (omega arith))
subtree_is_mth H (suc j) i D h =
    let w = 2 ^ j in
    let k : (i + 1) * (2 * w) ≤ length D = subst (λ (n : ℕ). (i + 1) * n ≤ length D) (twice j) h in
    ap (λ l. hash_node H l (subtree H j (2 * i + 1) D)) (subtree_is_mth H j (2 * i) D (inside_left w i (length D) k))
    ∙ ap (λ r. hash_node H (mth H (take w (drop (w * (2 * i)) D))) r) (subtree_is_mth H j (2 * i + 1) D (inside_right w i (length D) k))
    ∙ sym (halves H w i D (pow_some j) (split_double j) k)
    ∙ ap (λ n. mth H (take n (drop (n * i) D))) (sym (twice j))

-- ---- the reader's walk down to the tiles
same_width : (level : ℕ) → level % 8 ≡ 0 → 256 ^ (level / 8) ≡ 2 ^ level
same_width level e =
    let k : 8 * (level / 8) ≡ level = omega arith in
    sym (powers (level / 8)) ∙ ap (λ n. 2 ^ n) k

pub hash_is : (H : List ℕ → List ℕ) (level i : ℕ) (D : List (List ℕ)) (r : List ℕ) → level % 8 ≡ 0 → (i + 1) * 2 ^ level ≤ length D
    → r ≡ mth H (take (256 ^ (level / 8)) (drop (256 ^ (level / 8) * i) D)) → r ≡ subtree H level i D
hash_is H level i D r e h s =
    s ∙ ap (λ n. mth H (take n (drop (n * i) D))) (same_width level e) ∙ sym (subtree_is_mth H level i D h)

below : (level : ℕ) → 0 < level → 2 ^ level ≡ 2 * 2 ^ (level - 1)
below level h = let k : level ≡ suc (level - 1) = omega arith in ap (λ n. 2 ^ n) k ∙ twice (level - 1)

pub left_inside : (level i n : ℕ) → 0 < level → (i + 1) * 2 ^ level < n → (2 * i + 1) * 2 ^ (level - 1) < n
left_inside level i n p h =
    let k : (i + 1) * (2 * 2 ^ (level - 1)) < n = subst (λ (w : ℕ). (i + 1) * w < n) (below level p) h in
    omega arith

pub right_inside : (level i n : ℕ) → 0 < level → (i + 1) * 2 ^ level < n → (2 * i + 1 + 1) * 2 ^ (level - 1) < n
right_inside level i n p h =
    let k : (i + 1) * (2 * 2 ^ (level - 1)) < n = subst (λ (w : ℕ). (i + 1) * w < n) (below level p) h in
    omega arith

pub small_index : (level i n : ℕ) → 0 < level → (i + 1) * 2 ^ level < n → 2 * i + 1 < n
small_index level i n p h =
    let k = right_inside level i n p h in
    let q = pow_some (level - 1) in
    let one : 1 ≤ 2 ^ (level - 1) = omega (arith, q) in
    omega (arith, k, mul-le-mul_left (2 * i + 1 + 1) one)

pub joined_up : (H : List ℕ → List ℕ) (level i : ℕ) (D : List (List ℕ)) (l r v : List ℕ) → 0 < level
    → l ≡ subtree H (level - 1) (2 * i) D → r ≡ subtree H (level - 1) (2 * i + 1) D → v ≡ hash_node H l r → v ≡ subtree H level i D
unfolding subtree
joined_up H level i D l r v p a b e =
    let k : suc (level - 1) ≡ level = omega arith in
    let here : v ≡ subtree H (suc (level - 1)) i D = e ∙ rw (a, b) refl in
    here ∙ ap (λ n. subtree H n i D) k

-- ---- a node that is given
-- a node whose hash is in a tile
pub node_in_tile : (H : List ℕ → List ℕ) (given : ℕ → ℕ → List ℕ) (D : List (List ℕ)) (level i : ℕ) (r : List ℕ) → GivesNodeOf H given D level i
    → level % 8 ≡ 0 → r ≡ given (level / 8) i → r ≡ subtree H level i D
node_in_tile H given D level i r s e f =
    let one : 2 ^ (level % 8) ≡ 1 = ap (λ (n : ℕ). 2 ^ n) e in
    let least : i * 2 ^ (level % 8) ≤ i = rw one (omega arith) in
    let most : i < (i + 1) * 2 ^ (level % 8) = rw one (omega arith) in
    hash_is H level i D r e s.within (f ∙ s.hash i least most)

-- the hashes of a node are those of its two halves
rest_below : (level : ℕ) → 0 < level % 8 → 2 ^ (level % 8) ≡ 2 * 2 ^ ((level - 1) % 8)
rest_below level h =
    let k : level % 8 ≡ suc ((level - 1) % 8) = omega arith in
    ap (λ n. 2 ^ n) k ∙ twice ((level - 1) % 8)

at_most : (x y k l n : ℕ) → x ≡ y → l * y ≤ n → k ≤ l → k * x ≤ n
at_most x y k l n e h o =
    let m : k * y ≤ l * y = mul-le-mul_right y o in
    rw e (omega arith)

half_within : (level i k n : ℕ) → 0 < level → (i + 1) * 2 ^ level ≤ n → k ≤ 2 * (i + 1) → k * 2 ^ (level - 1) ≤ n
half_within level i k n p h o =
    let a : (i + 1) * (2 * 2 ^ (level - 1)) ≤ n = subst (λ (w : ℕ). (i + 1) * w ≤ n) (below level p) h in
    let b : 2 * (i + 1) * 2 ^ (level - 1) ≤ n = omega arith in
    at_most (2 ^ (level - 1)) (2 ^ (level - 1)) k (2 * (i + 1)) n refl b o

lower : (i k w x : ℕ) → 2 * i ≤ k → k * w ≤ x → i * (2 * w) ≤ x
lower i k w x o h =
    let m : 2 * i * w ≤ k * w = mul-le-mul_right w o in
    omega arith

upper : (i k w x : ℕ) → k ≤ 2 * (i + 1) → x < k * w → x < (i + 1) * (2 * w)
upper i k w x o h =
    let m : k * w ≤ 2 * (i + 1) * w = mul-le-mul_right w o in
    omega arith

pub half_given : (H : List ℕ → List ℕ) (given : ℕ → ℕ → List ℕ) (D : List (List ℕ)) (level i k : ℕ) → 0 < level % 8 → 2 * i ≤ k → k + 1 ≤ 2 * (i + 1)
    → GivesNodeOf H given D level i → GivesNodeOf H given D (level - 1) k
half_given H given D level i k p least most s =
    let w = 2 ^ ((level - 1) % 8) in
    let e : 2 ^ (level % 8) ≡ 2 * w = rest_below level p in
    let t : (level - 1) / 8 ≡ level / 8 = omega arith in
    record {
      within = half_within level i (k + 1) (length D) (omega arith) s.within most;
      hash = λ x a b.
          ap (λ (u : ℕ). given u x) t
          ∙ s.hash x (rw e (lower i k w x least a)) (rw e (upper i (k + 1) w x most b))
          ∙ ap (λ (u : ℕ). mth H (take (256 ^ u) (drop (256 ^ u * x) D))) (sym t);
    }

-- the tiles of a list give each node that it has
pub node_of_tiles : (H : List ℕ → List ℕ) (given : ℕ → ℕ → List ℕ) (D : List (List ℕ)) (level i : ℕ) → GivesTilesOf H given D → (i + 1) * 2 ^ level ≤ length D
    → GivesNodeOf H given D level i
node_of_tiles H given D level i s h = record {
  within = h;
  hash = λ x a b. s.hash (level / 8) x (hash_within x b);
}
  where
    parts : 2 ^ level ≡ 2 ^ (level % 8) * 256 ^ (level / 8)
    parts =
        let e : level ≡ level % 8 + 8 * (level / 8) = omega arith in
        ap (λ (n : ℕ). 2 ^ n) e ∙ pow-add 2 (level % 8) (8 * (level / 8)) ∙ ap (λ (n : ℕ). 2 ^ (level % 8) * n) (powers (level / 8))

    hash_within : (x : ℕ) → x < (i + 1) * 2 ^ (level % 8) → (x + 1) * 256 ^ (level / 8) ≤ length D
    hash_within x b =
        let m : (x + 1) * 256 ^ (level / 8) ≤ (i + 1) * 2 ^ (level % 8) * 256 ^ (level / 8) = mul-le-mul_right (256 ^ (level / 8)) (omega (arith, b)) in
        let e : (i + 1) * 2 ^ (level % 8) * 256 ^ (level / 8) ≡ (i + 1) * 2 ^ level = mul_assoc (i + 1) (2 ^ (level % 8)) (256 ^ (level / 8)) ∙ ap (λ (n : ℕ). (i + 1) * n) (sym parts) in
        omega (arith, m, e, h)

-- ---- everything that the walk reads is in the tree
pub inside_last : (n level k : ℕ) → k ≤ (n - 1) / 2 ^ level → k * 2 ^ level ≤ n
inside_last n level k h =
    let a : k * 2 ^ level ≤ (n - 1) / 2 ^ level * 2 ^ level = mul-le-mul_right (2 ^ level) h in
    omega (arith, a, div-mul-le_self (n - 1) (2 ^ level))

pub edge_within : (n level i : ℕ) → IsEdgeNode n level i → (i + 1) * 2 ^ level ≤ n
edge_within n level i = elim [
  | inl x ↦ rw (x.0) (omega (arith, x.1))
  | inr x ↦ inside_last n level (i + 1) (omega (arith, x.1))
]

pub edge_of_tiles : (H : List ℕ → List ℕ) (given : ℕ → ℕ → List ℕ) (D : List (List ℕ)) (n level i : ℕ) → GivesTilesOf H given D → n ≤ length D → IsEdgeNode n level i
    → GivesNodeOf H given D level i
edge_of_tiles H given D n level i s f r = node_of_tiles H given D level i s (omega (arith, f, edge_within n level i r))

pub path_of_tiles : (H : List ℕ → List ℕ) (given : ℕ → ℕ → List ℕ) (D : List (List ℕ)) (m n level i : ℕ) → GivesTilesOf H given D → n ≤ length D → IsPathNode m n level i
    → GivesNodeOf H given D level i
path_of_tiles H given D m n level i s f = elim [
  | inl x ↦ edge_of_tiles H given D n level i s f x
  | inr x ↦ node_of_tiles H given D level i s (omega (arith, f, inside_last n level (i + 1) (omega (arith, x.0))))
]

pub proof_of_tiles : (H : List ℕ → List ℕ) (given : ℕ → ℕ → List ℕ) (D : List (List ℕ)) (m n level i : ℕ) → GivesTilesOf H given D → n ≤ length D → IsProofNode m n level i
    → GivesNodeOf H given D level i
proof_of_tiles H given D m n level i s f = elim [
  | inl x ↦ edge_of_tiles H given D n level i s f x
  | inr x ↦ node_of_tiles H given D level i s (omega (arith, f, inside_last n level (i + 1) (omega (arith, x.1))))
]
