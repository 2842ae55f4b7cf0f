-- The index of the first element that passes, found through the places of its address.
use Rattle.std.proofs.Common.{◌≡◌, ℕ, suc, ◌+◌, ◌<◌, List, [], ◌∷◌, ◌++◌, length, get_or, map, Bool, true, false, refl, ap, sym, ◌∙◌, arith, append_assoc}
use Rattle.std.proofs.Common.{Option, Some, None, inl, inr}
use Rattle.std.specs.Prelude.{position, not, ◌==◌, nat_lt, if◌then◌else◌, cond}
use Rattle.std.specs.List.{position_or_len}
use Rattle.std.proofs.lemmas.List.{append-nil, map-append, map_push, length-map}
use Rattle.std.proofs.lemmas.Bool.{cases_lt}
use Rattle.std.proofs.lemmas.Bool.Decides.{nat_tests}
use Rattle.shared_table.specs.declared.slots.Slot.{Slot}
use Rattle.shared_table.specs.Looked.{if_at, first_where, places_in, places_from, ArePlaced}
use Rattle.shared_table.proofs.Sides.{places_in-push}

pub places_from-push : (k : ℕ) (xs : List ℕ) (y a : ℕ) → places_from k (xs ++ y ∷ []) a ≡ places_from k xs a ++ if_at y (k + length xs) a
places_from-push k [] y a = append-nil (if_at y k a) ∙ ap (λ (n : ℕ). if_at y n a) (let e : k ≡ k + 0 = omega arith in e)
places_from-push k (x ∷ xs) y a =
    ap (λ (r : List ℕ). if_at x k a ++ r) (places_from-push (k + 1) xs y a)
    ∙ sym (append_assoc (if_at x k a) (places_from (k + 1) xs a) (if_at y (k + 1 + length xs) a))
    ∙ ap (λ (n : ℕ). (if_at x k a ++ places_from (k + 1) xs a) ++ if_at y n a) (let e : k + 1 + length xs ≡ k + length (x ∷ xs) = omega arith in e)

-- the places of two lists, one after the other
pub places_from-append : (k : ℕ) (xs ys : List ℕ) (a : ℕ) → places_from k (xs ++ ys) a ≡ places_from k xs a ++ places_from (k + length xs) ys a
places_from-append k [] ys a = ap (λ (n : ℕ). places_from n ys a) (let e : k ≡ k + 0 = omega arith in e)
places_from-append k (x ∷ xs) ys a =
    ap (λ (r : List ℕ). if_at x k a ++ r) (places_from-append (k + 1) xs ys a)
    ∙ sym (append_assoc (if_at x k a) (places_from (k + 1) xs a) (places_from (k + 1 + length xs) ys a))
    ∙ ap (λ (n : ℕ). (if_at x k a ++ places_from (k + 1) xs a) ++ places_from n ys a) (let e : k + 1 + length xs ≡ k + length (x ∷ xs) = omega arith in e)

-- the search from a place on for the first element that passes
abbrev pub seek : {X : Type 0} → (X → Bool) → ℕ → List X → Option ℕ
seek p k [] = None
seek p k (x ∷ xs) = if p x then Some k else seek p (k + 1) xs

abbrev shifted : ℕ → Option ℕ → Option ℕ
shifted k None = None
shifted k (Some i) = Some (k + i)

at_first : (k n : ℕ) → shifted k (cond (nat_lt 0 (suc n)) (Some 0) None) ≡ Some k
at_first k n =
    let yes : nat_lt 0 (suc n) ≡ true = grind (arith, nat_tests) in
    ap (λ (v : Bool). shifted k (cond v (Some 0) None)) yes ∙ ap (λ (m : ℕ). Some m) (let e : k + 0 ≡ k = omega arith in e)

one_on : (k m n : ℕ) → shifted k (cond (nat_lt (1 + m) (suc n)) (Some (1 + m)) None) ≡ shifted (k + 1) (cond (nat_lt m n) (Some m) None)
one_on k m n = elim (cases_lt m n) [
  | inl below ↦
      let a : nat_lt m n ≡ true = grind (arith, nat_tests) in
      let b : nat_lt (1 + m) (suc n) ≡ true = grind (arith, nat_tests) in
      ap (λ (v : Bool). shifted k (cond v (Some (1 + m)) None)) b
      ∙ ap (λ (j : ℕ). Some j) (let e : k + (1 + m) ≡ k + 1 + m = omega arith in e)
      ∙ sym (ap (λ (v : Bool). shifted (k + 1) (cond v (Some m) None)) a)
  | inr past ↦
      let a : nat_lt m n ≡ false = grind (arith, nat_tests) in
      let b : nat_lt (1 + m) (suc n) ≡ false = grind (arith, nat_tests) in
      ap (λ (v : Bool). shifted k (cond v (Some (1 + m)) None)) b ∙ sym (ap (λ (v : Bool). shifted (k + 1) (cond v (Some m) None)) a)
]

seek_by : {X : Type 0} (p : X → Bool) (k : ℕ) (x : X) (xs : List X) (b : Bool) → p x ≡ b → shifted (k + 1) (position p xs) ≡ seek p (k + 1) xs
    → shifted k (position p (x ∷ xs)) ≡ seek p k (x ∷ xs)
seek_by p k x xs b e rest =
    ap (λ (v : Bool). shifted k (cond (nat_lt (cond (not v) (1 + position_or_len p xs) 0) (suc (length xs)))
    (Some (cond (not v) (1 + position_or_len p xs) 0)) None)) e
    ∙ ends b
    ∙ sym (ap (λ (v : Bool). if v then Some k else seek p (k + 1) xs) e)
  where
    ends : (b : Bool) → shifted k (cond (nat_lt (cond (not b) (1 + position_or_len p xs) 0) (suc (length xs)))
        (Some (cond (not b) (1 + position_or_len p xs) 0)) None) ≡ (if b then Some k else seek p (k + 1) xs)
    ends true = at_first k (length xs)
    ends false = one_on k (position_or_len p xs) (length xs) ∙ rest

pub seek-position : {X : Type 0} (p : X → Bool) (k : ℕ) (xs : List X) → shifted k (position p xs) ≡ seek p k xs
seek-position p k [] = refl
seek-position p k (x ∷ xs) = seek_by p k x xs (p x) refl (seek-position p (k + 1) xs)

pub position-seek : {X : Type 0} (p : X → Bool) (xs : List X) → position p xs ≡ seek p 0 xs
position-seek p xs = sym (none_shifted (position p xs)) ∙ seek-position p 0 xs
  where
    none_shifted : (o : Option ℕ) → shifted 0 o ≡ o
    none_shifted None = refl
    none_shifted (Some i) = ap (λ (n : ℕ). Some n) (let e : 0 + i ≡ i = omega arith in e)

step_at : (q : ℕ → Bool) (k y a : ℕ) (more : List ℕ) (rest : Option ℕ) (same passes : Bool) → (y == a) ≡ same → q k ≡ passes
    → (passes ≡ true → same ≡ true) → first_where q more ≡ rest
    → first_where q (if_at y k a ++ more) ≡ (if passes then Some k else rest)
step_at q k y a more rest true true e f so onward = ap (λ (v : Bool). first_where q ((if v then k ∷ [] else []) ++ more)) e
    ∙ ap (λ (v : Bool). if v then Some k else first_where q more) f
step_at q k y a more rest true false e f so onward = ap (λ (v : Bool). first_where q ((if v then k ∷ [] else []) ++ more)) e
    ∙ ap (λ (v : Bool). if v then Some k else first_where q more) f ∙ onward
step_at q k y a more rest false true e f so onward = let h : false ≡ true = so refl in cc
step_at q k y a more rest false false e f so onward = ap (λ (v : Bool). first_where q ((if v then k ∷ [] else []) ++ more)) e ∙ onward

-- the first passing element is found among the places of one address, if each passing element has that address
pub first_place : {X : Type 0} (at : X → ℕ) (p : X → Bool) (q : ℕ → Bool) (d : X) (a k : ℕ) (xs : List X) → ((x : X) → p x ≡ true → (at x == a) ≡ true)
    → ((j : ℕ) → j < length xs → q (k + j) ≡ p (get_or xs j d))
    → first_where q (places_from k (map at xs) a) ≡ seek p k xs
first_place at p q d a k [] address each = refl
first_place at p q d a k (x ∷ xs) address each =
    let here : q k ≡ p x = ap q (let e : k ≡ k + 0 = omega arith in e) ∙ each 0 (omega arith) in
    let later : (j : ℕ) → j < length xs → q (k + 1 + j) ≡ p (get_or xs j d) = λ j below. ap q (let e : k + 1 + j ≡ k + suc j = omega arith in e)
    ∙ each (suc j) (omega arith) in
    step_at q k (at x) a (places_from (k + 1) (map at xs) a) (seek p (k + 1) xs) (at x == a) (p x) refl here (address x)
    (first_place at p q d a (k + 1) xs address later)

-- one more element, with its place
pub noted : {X : Type 0} (at : X → ℕ) (look more : ℕ → List ℕ) (xs now : List X) (y : X) (x k : ℕ) → ((a : ℕ) → look a ≡ places_from 0 (map at xs) a)
    → ((a : ℕ) → more a ≡ look a ++ if_at x k a)
    → x ≡ at y → k ≡ length xs → now ≡ xs ++ y ∷ [] → (a : ℕ) → more a ≡ places_from 0 (map at now) a
noted at look more xs now y x k is grown here place new a =
    let size : k ≡ 0 + length (map at xs) = (let l = length-map xs at in omega arith) in
    grown a ∙ ap (λ (r : List ℕ). r ++ if_at x k a) (is a)
    ∙ ap (λ (z : ℕ). places_from 0 (map at xs) a ++ if_at z k a) here
    ∙ ap (λ (n : ℕ). places_from 0 (map at xs) a ++ if_at (at y) n a) size
    ∙ sym (places_from-push 0 (map at xs) (at y) a)
    ∙ ap (λ (ys : List ℕ). places_from 0 ys a) (sym (map_push at xs y) ∙ ap (map at) (sym new))

-- one more slot, with its element
pub placed-push : {X : Type 0} (at : X → ℕ) (slots : List Slot) (s : Slot) (k n : ℕ) (xs : List X) (x : X) → s.address ≡ at x → s.place ≡ n
    → n ≡ k + length xs → ArePlaced at slots k xs
    → ArePlaced at (slots ++ s ∷ []) k (xs ++ x ∷ [])
placed-push at slots s k n xs x here place count are a =
    let size : s.place ≡ k + length (map at xs) = (let l = length-map xs at in omega (arith, place, count, l)) in
    places_in-push slots s a
    ∙ ap (λ (r : List ℕ). r ++ if_at s.address s.place a) (are a)
    ∙ ap (λ (z : ℕ). places_from k (map at xs) a ++ if_at z s.place a) here
    ∙ ap (λ (p : ℕ). places_from k (map at xs) a ++ if_at (at x) p a) size
    ∙ sym (places_from-push k (map at xs) (at x) a)
    ∙ ap (λ (ys : List ℕ). places_from k ys a) (sym (map_push at xs x))

-- the places of all elements, after those of the later elements were added
pub placed-append : {X : Type 0} (at : X → ℕ) (look more : ℕ → List ℕ) (slots : List Slot) (old later now : List X)
    → ((a : ℕ) → look a ≡ places_from 0 (map at old) a) → ((a : ℕ) → more a ≡ look a ++ places_in slots a)
    → ArePlaced at slots (length old) later → now ≡ old ++ later → (a : ℕ) → more a ≡ places_from 0 (map at now) a
placed-append at look more slots old later now is grown are e a =
    grown a
    ∙ ap (λ (r : List ℕ). r ++ places_in slots a) (is a)
    ∙ ap (λ (r : List ℕ). places_from 0 (map at old) a ++ r) (are a)
    ∙ ap (λ (n : ℕ). places_from 0 (map at old) a ++ places_from n (map at later) a)
    (let l = length-map old at in let m : length old ≡ 0 + length (map at old) = omega (arith, l) in m)
    ∙ sym (places_from-append 0 (map at old) (map at later) a)
    ∙ ap (λ (xs : List ℕ). places_from 0 xs a) (sym (map-append at old later))
    ∙ ap (λ (xs : List _). places_from 0 (map at xs) a) (sym e)
