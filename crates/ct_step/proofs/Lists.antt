-- Lists in which each two elements are in a relation, in order.
use Rattle.std.proofs.Common.{ℕ, zero, suc, ◌-◌, ◌<◌, ◌≤◌, List, [], ◌∷◌, ◌++◌, length, get_or, All, AllPairs, sym, refl, subst, arith, length-append}
use Rattle.std.proofs.lemmas.List.{get_or-append_right}
use Rattle.std.proofs.lemmas.List.Elements.{All-head, All-tail, All-append}
use Rattle.std.proofs.lemmas.List.Kept.{AllPairs-cons}

pub AllPairs-first : {X : Type 0} (R : X → X → Type 0) (x : X) (xs : List X) → AllPairs R (x ∷ xs) → All (R x) xs
AllPairs-first R x xs p = λ k d h. p 0 (suc k) d (omega arith) (omega (arith, h))

pub AllPairs-rest : {X : Type 0} (R : X → X → Type 0) (x : X) (xs : List X) → AllPairs R (x ∷ xs) → AllPairs R xs
AllPairs-rest R x xs p = λ i j d l h. p (suc i) (suc j) d (omega (arith, l)) (omega (arith, h))

pub AllPairs-append : {X : Type 0} (R : X → X → Type 0) (xs ys : List X) → AllPairs R xs → AllPairs R ys → All (λ x. All (R x) ys) xs
    → AllPairs R (xs ++ ys)
AllPairs-append R [] ys p q across = q
AllPairs-append R (x ∷ xs) ys p q across =
    AllPairs-cons R x (xs ++ ys) (All-append (R x) xs ys (AllPairs-first R x xs p) (All-head (λ z. All (R z) ys) x xs across))
    (AllPairs-append R xs ys (AllPairs-rest R x xs p) q (All-tail (λ z. All (R z) ys) x xs across))

-- each element after the first list is in the relation with all before it
pub pairs_behind : {X : Type 0} (R : X → X → Type 0) (xs ys : List X) → AllPairs R ys → All (λ x. All (R x) ys) xs
    → (i j : ℕ) (d : X) → i < j → length xs ≤ j → j < length (xs ++ ys) → R (get_or (xs ++ ys) i d) (get_or (xs ++ ys) j d)
pairs_behind R [] ys q across i j d l n h = q i j d l h
pairs_behind R (x ∷ xs) ys q across i zero d l n h = absurd (omega (arith, l))
pairs_behind R (x ∷ xs) ys q across zero (suc j) d l n h =
    let m : length xs ≤ j = omega (arith, n) in
    let inside : j - length xs < length ys = omega (arith, h, m, length-append xs ys) in
    subst (R x) (sym (get_or-append_right xs ys (length xs) j d refl m)) (All-head (λ z. All (R z) ys) x xs across (j - length xs) d inside)
pairs_behind R (x ∷ xs) ys q across (suc i) (suc j) d l n h =
    pairs_behind R xs ys q (All-tail (λ z. All (R z) ys) x xs across) i j d (omega (arith, l)) (omega (arith, n)) (omega (arith, h))
