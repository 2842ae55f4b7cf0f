-- The hash and the proofs of a subtree from the audit path of a leaf.
use Rattle.std.proofs.Common.{◌≡◌, ℕ, zero, suc, ◌+◌, ◌-◌, ◌*◌, ◌/◌, ◌^◌, ◌<◌, ◌≤◌, cond, ltb, nat_eq, Bool, true, false, refl, sym, ◌∙◌, ap, arith}
use Rattle.std.proofs.Common.{List, [], ◌∷◌, length, take, drop, get_or, fold, ⊎_elim, ◌⊎◌, inl, inr}
use Rattle.std.proofs.lemmas.Bool.{cases_lt, ltb-true, ltb-false, eqb-true, eq-eqb}
use Rattle.std.proofs.lemmas.List.{length-take-le, take-take, take_at, drop_at, get_or-take, get_or-drop}
use Rattle.std.proofs.lemmas.List.Sums.{fold-append}
use Rattle.std.proofs.Math.Nat.{pow-suc}
use Rattle.std.proofs.lemmas.Nat.{pow_pos}
use Rattle.ct_tree.proofs.Split.{split_is, split_unique, split_pos, split_lt, split_induct}
use Rattle.ct_tree.proofs.Mth.{mth-split_at}
use Rattle.ct_tree.proofs.Raised.{mth-single}
use Rattle.ct_tree.proofs.Path.{path-small, path-left, length-path_at}
use Rattle.ct_tree.specs.Tree.{split, hash_node, mth, path, proof}
use Rattle.ct_tree.specs.Lengths.{path_length}
use Rattle.ct_tree.specs.Walk.{IsPathNode}
use Rattle.ct_subtrees.specs.Cover.{IsPower}
use Rattle.ct_subtrees.specs.Made.{is_perfect, is_proof_of_end}
use Rattle.ct_subtrees.specs.Subtrees.{IsSubtree, slice, subtree_hash, subtree_path, subtree_proof}
use Rattle.ct_subtrees.proofs.Rebuilds.{slice_length}
use Rattle.ct_subtrees.proofs.Inside.{path-inside_at, sub-partial_at}

-- ---- perfect trees
pub perfect_power : (c : ℕ) → 0 < c → is_perfect c ≡ true → IsPower c
perfect_power c z e = by_one (nat_eq c 1) refl e
  where
    by_one : (b : Bool) → nat_eq c 1 ≡ b → cond b true (nat_eq (split c) (c - split c)) ≡ true → IsPower c
    by_one true f g = (0, eqb-true c 1 f)
    by_one false f g =
        ⊎_elim
        (λ (h : 1 < c).
        let p = split_is c h in
        let half : split c ≡ c - split c = eqb-true (split c) (c - split c) g in
        (suc p.power.exponent, omega (arith, half, p.power.is, p.below, pow-suc 2 p.power.exponent)))
        (λ (h : c ≤ 1). (0, omega arith))
        (cases_lt 1 c)

pub power_perfect : (c : ℕ) → IsPower c → is_perfect c ≡ true
power_perfect c (zero, e) = rw (eq-eqb c 1 (omega (arith, e))) refl
power_perfect c (suc j, e) =
    let p = pow_pos j in
    let double : c ≡ 2 * 2 ^ j = omega (arith, e, pow-suc 2 j) in
    let half : split c ≡ 2 ^ j =
    split_unique c (split c) (2 ^ j) (split_is c (omega (arith, double, p)))
    (record { power = record { exponent = j; is = refl }; below = omega (arith, double, p); half = omega (arith, double) }) in
    by_one (nat_eq c 1) (eq-eqb (split c) (c - split c) (omega (arith, double, half)))
  where
    by_one : (b : Bool) → nat_eq (split c) (c - split c) ≡ true → cond b true (nat_eq (split c) (c - split c)) ≡ true
    by_one true g = refl
    by_one false g = g

both_tests : (a p : Bool) → cond a (cond p false true) false ≡ true → (a ≡ true) × (p ≡ false)
both_tests true true e = cc
both_tests true false e = (refl, refl)
both_tests false p e = cc

one_test : (a p : Bool) → cond a (cond p false true) false ≡ false → (a ≡ false) ⊎ (p ≡ true)
one_test true true e = inr refl
one_test true false e = cc
one_test false p e = inl refl

pub proof_of_end : (s e n : ℕ) → is_proof_of_end s e n ≡ true → (e < n) × (IsPower (e - s) → ⊥)
proof_of_end s e n f =
    let both = both_tests (ltb e n) (is_perfect (e - s)) f in (
      ltb-true e n both.0,
      λ p. let t : is_perfect (e - s) ≡ true = power_perfect (e - s) p in cc,
    )

pub proof_above : (s e n : ℕ) → s < e → e ≤ n → is_proof_of_end s e n ≡ false → IsPower (e - s) ⊎ (e ≡ n)
proof_above s e n l i f =
    ⊎_elim
    (λ (a : ltb e n ≡ false). inr (omega (arith, i, ltb-false e n a)))
    (λ (p : is_perfect (e - s) ≡ true). inl (perfect_power (e - s) (omega arith) p))
    (one_test (ltb e n) (is_perfect (e - s)) f)

-- ---- the node of the first leaf
pub own_read : (s e : ℕ) → s < e → IsPathNode s e 0 s
own_read s e l =
    ⊎_elim
    (λ (inside : s < e - 1).
    let a : s < (e - 1) / 2 ^ 0 = omega arith in
    let b : s / 2 ≡ s / 2 ^ 1 = omega arith in
    inr (a, b))
    (λ (last : e - 1 ≤ s).
    let b : s + 1 ≡ e = omega arith in
    inl (inl (refl, b)))
    (cases_lt s (e - 1))

-- ---- lists
slice_first : (s e : ℕ) (D : List (List ℕ)) → s < e → get_or (slice s e D) 0 [] ≡ get_or D s []
slice_first s e D l =
    let same : s + 0 ≡ s = omega arith in
    get_or-drop s (take e D) 0 [] ∙ ap (λ u. get_or (take e D) u []) same ∙ get_or-take e D s [] l

module _ (H : List ℕ → List ℕ) where
  -- ---- the consistency proof
  pub proof-of_end : (s e n : ℕ) (D : List (List ℕ)) → IsSubtree s e → n ≤ length D → is_proof_of_end s e n ≡ true
      → subtree_proof H s e (take n D) ≡ proof H e (take n D)
  proof-of_end s e n D v l f =
      let t = proof_of_end s e n f in
      sub-partial_at H n s e (take n D) true true (length-take-le n D l) v t.0 t.1

  pub proof-above : (s e n : ℕ) (D : List (List ℕ)) → IsSubtree s e → e ≤ n → n ≤ length D → is_proof_of_end s e n ≡ false
      → drop (path_length 0 (e - s)) (path H s (take n D)) ≡ subtree_proof H s e (take n D)
  proof-above s e n D v i l f =
      let E = take n D in
      let size : length E ≡ n = length-take-le n D l in
      let part = path H (s - s) (slice s e E) in
      let z : s - s ≡ 0 = omega arith in
      let count : length part ≡ path_length 0 (e - s) =
      length-path_at H (e - s) (s - s) (slice s e E) (slice_length s e E (omega (arith, v.0)) (omega (arith, size, i))) (omega (arith, v.0))
      ∙ ap (λ u. path_length u (e - s)) z in
      ap (drop (path_length 0 (e - s))) (path-inside_at H n s s e E size v (omega arith) v.0 i (proof_above s e n v.0 i f))
      ∙ drop_at part (subtree_proof H s e E) (path_length 0 (e - s)) count

  -- ---- the inclusion proof
  pub path-inside : (i s e : ℕ) (D : List (List ℕ)) → IsSubtree s e → s ≤ i → i < e → e ≤ length D
      → take (path_length (i - s) (e - s)) (path H i (take e D)) ≡ subtree_path H i s e D
  path-inside i s e D v a b l =
      let E = take e D in
      let size : length E ≡ e = length-take-le e D l in
      let part = path H (i - s) (slice s e E) in
      let count : length part ≡ path_length (i - s) (e - s) =
      length-path_at H (e - s) (i - s) (slice s e E) (slice_length s e E (omega (arith, v.0)) (omega (arith, size))) (omega (arith, a, b)) in
      let same : slice s e E ≡ slice s e D = ap (drop s) (take-take e e D (omega arith)) in
      ap (take (path_length (i - s) (e - s))) (path-inside_at H e i s e E size v a b (omega arith) (inr refl))
      ∙ take_at part (subtree_proof H s e E) (path_length (i - s) (e - s)) count
      ∙ ap (path H (i - s)) same

  pub path-first : (s e : ℕ) (D : List (List ℕ)) → IsSubtree s e → e ≤ length D
      → take (path_length 0 (e - s)) (path H s (take e D)) ≡ subtree_path H s s e D
  path-first s e D v l =
      let z : s - s ≡ 0 = omega arith in
      ap (λ u. take (path_length u (e - s)) (path H s (take e D))) (sym z) ∙ path-inside s s e D v (omega arith) v.0 l

  -- ---- the hash
  fold-path_at : (n : ℕ) (D : List (List ℕ)) → length D ≡ n → 0 < n → fold (hash_node H) (get_or D 0 []) (path H 0 D) ≡ mth H D
  fold-path_at =
      split_induct (λ n. (D : List (List ℕ)) → length D ≡ n → 0 < n → fold (hash_node H) (get_or D 0 []) (path H 0 D) ≡ mth H D)
      (λ D e z. absurd (omega arith))
      (λ D e z. ap (fold (hash_node H) (get_or D 0 [])) (path-small H 0 D (omega arith)) ∙ sym (mth-single H D [] e))
      (λ n h left right D e z.
      let k = split n in
      let some = split_pos n h in
      ap (fold (hash_node H) (get_or D 0 [])) (path-left H 0 k D (omega arith) (ap split e) some)
      ∙ fold-append (hash_node H) (get_or D 0 []) (path H 0 (take k D)) (mth H (drop k D) ∷ [])
      ∙ ap (λ x. hash_node H (fold (hash_node H) x (path H 0 (take k D))) (mth H (drop k D))) (sym (get_or-take k D 0 [] some))
      ∙ ap (λ x. hash_node H x (mth H (drop k D))) (left (take k D) (length-take-le k D (omega (arith, split_lt n h))) some)
      ∙ sym (mth-split_at H D k (omega arith) (ap split e)))

  pub hash-over : (s e : ℕ) (D : List (List ℕ)) (leaf : List ℕ) (p : List (List ℕ)) → IsSubtree s e → e ≤ length D → leaf ≡ get_or D s []
      → p ≡ subtree_path H s s e D → fold (hash_node H) leaf p ≡ subtree_hash H s e D
  hash-over s e D leaf p v l f g =
      let z : s - s ≡ 0 = omega arith in
      ap (λ x. fold (hash_node H) x p) (f ∙ sym (slice_first s e D v.0))
      ∙ ap (fold (hash_node H) (get_or (slice s e D) 0 [])) (g ∙ ap (λ u. path H u (slice s e D)) z)
      ∙ fold-path_at (e - s) (slice s e D) (slice_length s e D (omega (arith, v.0)) l) (omega (arith, v.0))
