-- One step of the walk up from a leaf.
use Rattle.std.proofs.Common.{◌≡◌, ℕ, ◌+◌, ◌/◌, ◌%◌, ◌<◌, ◌≤◌, refl, sym, ◌∙◌, ap, arith, List, ◌∷◌, length, drop, Bool, true, false, not, eqb, Some, ⊎_elim}
use Rattle.std.proofs.Common.{◌⊎◌, inl, inr}
use Rattle.std.proofs.lemmas.Bool.{cases_lt, both_ways, not-true, not-false}
use Rattle.std.proofs.lemmas.Slice.Eq.{bytes_eq-Decides}
use Rattle.std.specs.Cmp.Lexicographic.{pointwise}
use Rattle.std.proofs.lemmas.List.{drop_all}
use Rattle.ct_tree.proofs.Split.{up}
use Rattle.ct_tree.proofs.Length.{path_length-up, path_length-lone, path_length-one, path_length-left, path_length-right}
use Rattle.ct_tree.specs.Tree.{hash_node, split}
use Rattle.ct_tree.specs.Lengths.{path_length}
use Rattle.ct_verify.proofs.Rebuild.{rebuild-odd, rebuild-even, rebuild-lone, rebuild-one}
use Rattle.ct_verify.specs.Rebuild.{rebuild}
use Rattle.ct_verify.specs.Place.{Lifted, here, above}

-- the level above a level whose last node has the index last
pub up_last : (last : ℕ) → up (last + 1) ≡ last / 2 + 1
up_last last = omega arith

pub lifted_inside : (a b n l : ℕ) → Lifted a b n l → a ≤ b → n ≤ l
lifted_inside a b n l here h = h
lifted_inside a b n l (above n' l' w e s m) h = omega arith

pub lifted_rebuild : (H : List ℕ → List ℕ) (x : List ℕ) (p : List (List ℕ)) (a b n l : ℕ) → Lifted a b n l
    → rebuild H a (b + 1) x p ≡ rebuild H n (l + 1) x p
lifted_rebuild H x p a b n l here = refl
lifted_rebuild H x p a b n l (above n' l' w e s m) =
    lifted_rebuild H x p a b n' l' w
    ∙ rebuild-lone H n' (l' + 1) x p e (omega arith) (omega arith)
    ∙ ap (λ u. rebuild H (n' / 2) u x p) (up_last l')

pub lifted_length : (a b n l : ℕ) → Lifted a b n l → path_length a (b + 1) ≡ path_length n (l + 1)
lifted_length a b n l here = refl
lifted_length a b n l (above n' l' w e s m) =
    lifted_length a b n' l' w
    ∙ path_length-lone (l' + 1) n' e (omega arith) (omega arith)
    ∙ ap (path_length (n' / 2)) (up_last l')

-- the element c joins at the left, and the walk goes up
pub walk_left : (H : List ℕ → List ℕ) (x c : List ℕ) (p : List (List ℕ)) (a b n l : ℕ) → Lifted a b n l → n % 2 ≡ 1 → a ≤ b
    → rebuild H a (b + 1) x (c ∷ p) ≡ rebuild H (n / 2) (l / 2 + 1) (hash_node H c x) p
walk_left H x c p a b n l w o i =
    let j = lifted_inside a b n l w i in
    lifted_rebuild H x (c ∷ p) a b n l w
    ∙ rebuild-odd H n (l + 1) x c p o (omega arith)
    ∙ ap (λ u. rebuild H (n / 2) u (hash_node H c x) p) (up_last l)

pub walk_left_length : (a b n l : ℕ) → Lifted a b n l → n % 2 ≡ 1 → a ≤ b
    → path_length a (b + 1) ≡ 1 + path_length (n / 2) (l / 2 + 1)
walk_left_length a b n l w o i =
    let j = lifted_inside a b n l w i in
    lifted_length a b n l w
    ∙ path_length-up (l + 1) n (omega arith)
    ∙ ap (λ u. 1 + path_length (n / 2) u) (up_last l)

-- the element c joins at the right, and the walk goes up
pub walk_right : (H : List ℕ → List ℕ) (x c : List ℕ) (p : List (List ℕ)) (n l : ℕ) → n % 2 ≡ 0 → n < l
    → rebuild H n (l + 1) x (c ∷ p) ≡ rebuild H (n / 2) (l / 2 + 1) (hash_node H x c) p
walk_right H x c p n l o i =
    rebuild-even H n (l + 1) x c p o (omega arith)
    ∙ ap (λ u. rebuild H (n / 2) u (hash_node H x c) p) (up_last l)

pub walk_right_length : (n l : ℕ) → n % 2 ≡ 0 → n < l → path_length n (l + 1) ≡ 1 + path_length (n / 2) (l / 2 + 1)
walk_right_length n l o i =
    path_length-up (l + 1) n (omega arith)
    ∙ ap (λ u. 1 + path_length (n / 2) u) (up_last l)

pub not_right : (n l : ℕ) → ((n % 2 ≡ 1) ⊎ (n ≡ l) → ⊥) → n ≤ l → (n % 2 ≡ 0) × (n < l)
not_right n l h i =
    let even : n % 2 ≡ 0 = ⊎_elim (λ (e : n % 2 < 1). let f : n % 2 ≡ 0 = omega arith in f)
    (λ (e : 1 ≤ n % 2). absurd (h (inl (omega arith)))) (cases_lt (n % 2) 1) in
    let low : n < l = ⊎_elim (λ (e : n < l). e) (λ (e : l ≤ n). absurd (h (inr (omega arith)))) (cases_lt n l) in
    (even, low)

-- ---- the end of the walk
pub length_at_root : (n l : ℕ) → l ≡ 0 → path_length n (l + 1) ≡ 0
length_at_root n l e = rw e (path_length-one n)

pub length_below_root : (n l : ℕ) → 0 < l → 0 < path_length n (l + 1)
length_below_root n l h =
    ⊎_elim
    (λ (low : n < split (l + 1)). omega (arith, path_length-left n (l + 1) (omega arith) low))
    (λ (high : split (l + 1) ≤ n). omega (arith, path_length-right n (l + 1) (omega arith) high))
    (cases_lt n (split (l + 1)))

pub rebuild_at_root : (H : List ℕ → List ℕ) (n l : ℕ) (x : List ℕ) (i : ℕ) (p : List (List ℕ)) → l ≡ 0 → length p ≤ i
    → rebuild H n (l + 1) x (drop i p) ≡ Some x
rebuild_at_root H n l x i p e h = rw (e, drop_all i p h) (rebuild-one H n x)

-- ---- two hashes compared
pub differ : (xs ys : List ℕ) (r : Bool) → r ≡ not (pointwise eqb xs ys) → r ≡ true → xs ≡ ys → ⊥
differ xs ys r e t h = both_ways (pointwise eqb xs ys) (not-true (pointwise eqb xs ys) (sym e ∙ t)) ((bytes_eq-Decides xs ys).1 h)

pub agree : (xs ys : List ℕ) (r : Bool) → r ≡ not (pointwise eqb xs ys) → r ≡ false → xs ≡ ys
agree xs ys r e f = (bytes_eq-Decides xs ys).0 (not-false (pointwise eqb xs ys) (sym e ∙ f))
