-- The first place that passes, step by step along the slots.
use Rattle.std.proofs.Common.{◌≡◌, ℕ, ◌+◌, ◌<◌, List, [], ◌∷◌, ◌++◌, length, get_or, take, drop, Bool, true, false, refl, ap, sym, ◌∙◌, Some, None}
use Rattle.std.specs.Prelude.{◌&&◌, ◌==◌, if◌then◌else◌}
use Rattle.std.proofs.lemmas.List.{take_more, take-append-drop, drop_more}
use Rattle.shared_table.specs.declared.slots.Slot.{Slot}
use Rattle.shared_table.specs.Looked.{places_in, if_at, first_where}
use Rattle.shared_table.proofs.Sides.{places_in-push, places_in-append}

skip_by : (q : ℕ → Bool) (k : ℕ) (xs ys : List ℕ) (b : Bool) → q k ≡ b → first_where q (k ∷ xs) ≡ None
    → (first_where q xs ≡ None → first_where q (xs ++ ys) ≡ first_where q ys) → first_where q (k ∷ xs ++ ys) ≡ first_where q ys
skip_by q k xs ys true e none onward =
    let h : Some k ≡ None = ap (λ (v : Bool). if v then Some k else first_where q xs) (sym e) ∙ none in cc
skip_by q k xs ys false e none onward =
    let h : first_where q xs ≡ None = ap (λ (v : Bool). if v then Some k else first_where q xs) (sym e) ∙ none in
    ap (λ (v : Bool). if v then Some k else first_where q (xs ++ ys)) e ∙ onward h

pub first_where-skip : (q : ℕ → Bool) (xs ys : List ℕ) → first_where q xs ≡ None → first_where q (xs ++ ys) ≡ first_where q ys
first_where-skip q [] ys none = refl
first_where-skip q (k ∷ xs) ys none = skip_by q k xs ys (q k) refl none (first_where-skip q xs ys)

keep_by : (q : ℕ → Bool) (k p : ℕ) (xs ys : List ℕ) (b : Bool) → q k ≡ b → first_where q (k ∷ xs) ≡ Some p
    → (first_where q xs ≡ Some p → first_where q (xs ++ ys) ≡ Some p) → first_where q (k ∷ xs ++ ys) ≡ Some p
keep_by q k p xs ys true e some onward =
    ap (λ (v : Bool). if v then Some k else first_where q (xs ++ ys)) e ∙ ap (λ (v : Bool). if v then Some k else first_where q xs) (sym e) ∙ some
keep_by q k p xs ys false e some onward =
    let h : first_where q xs ≡ Some p = ap (λ (v : Bool). if v then Some k else first_where q xs) (sym e) ∙ some in
    ap (λ (v : Bool). if v then Some k else first_where q (xs ++ ys)) e ∙ onward h

pub first_where-keep : (q : ℕ → Bool) (p : ℕ) (xs ys : List ℕ) → first_where q xs ≡ Some p → first_where q (xs ++ ys) ≡ Some p
first_where-keep q p [] ys some = let h : None ≡ Some p = some in cc
first_where-keep q p (k ∷ xs) ys some = keep_by q k p xs ys (q k) refl some (first_where-keep q p xs ys)

-- a slot that does not have that address or does not pass, and one that does both
pub miss : (q : ℕ → Bool) (s : Slot) (r : ℕ) → ((s.address == r) && q s.place) ≡ false → first_where q (if_at s.address s.place r) ≡ None
miss q s r not_it = by (s.address == r) refl
  where
    inner : (b : Bool) → q s.place ≡ b → (true && b) ≡ false → (if b then Some s.place else None) ≡ None
    inner true e bad = cc
    inner false e bad = refl

    by : (b : Bool) → (s.address == r) ≡ b → first_where q (if_at s.address s.place r) ≡ None
    by true e =
        ap (λ (v : Bool). first_where q (if v then s.place ∷ [] else [])) e
        ∙ inner (q s.place) refl (ap (λ (v : Bool). v && q s.place) (sym e) ∙ not_it)
    by false e = ap (λ (v : Bool). first_where q (if v then s.place ∷ [] else [])) e

pub hit : (q : ℕ → Bool) (s : Slot) (r : ℕ) (rest : List ℕ) → ((s.address == r) && q s.place) ≡ true
    → first_where q (if_at s.address s.place r ++ rest) ≡ Some s.place
hit q s r rest it = by (s.address == r) refl
  where
    inner : (b : Bool) → q s.place ≡ b → (true && b) ≡ true → (if b then Some s.place else first_where q rest) ≡ Some s.place
    inner true e good = refl
    inner false e good = cc

    by : (b : Bool) → (s.address == r) ≡ b → first_where q (if_at s.address s.place r ++ rest) ≡ Some s.place
    by true e =
        ap (λ (v : Bool). first_where q ((if v then s.place ∷ [] else []) ++ rest)) e
        ∙ inner (q s.place) refl (ap (λ (v : Bool). v && q s.place) (sym e) ∙ it)
    by false e = let h : false ≡ true = ap (λ (v : Bool). v && q s.place) (sym e) ∙ it in cc

pub missed : (q : ℕ → Bool) (slots : List Slot) (i r : ℕ) (d : Slot) → i < length slots → first_where q (places_in (take i slots) r) ≡ None
    → (((get_or slots i d).address == r) && q (get_or slots i d).place) ≡ false → first_where q (places_in (take (i + 1) slots) r) ≡ None
missed q slots i r d below so not_it =
    let s = get_or slots i d in
    ap (λ (t : List Slot). first_where q (places_in t r)) (take_more slots i d below)
    ∙ ap (first_where q) (places_in-push (take i slots) s r)
    ∙ first_where-skip q (places_in (take i slots) r) (if_at s.address s.place r) so
    ∙ miss q s r not_it

pub found : (q : ℕ → Bool) (slots : List Slot) (i r : ℕ) (d : Slot) → i < length slots → first_where q (places_in (take i slots) r) ≡ None
    → (((get_or slots i d).address == r) && q (get_or slots i d).place) ≡ true → Some (get_or slots i d).place ≡ first_where q (places_in slots r)
found q slots i r d below so it =
    let s = get_or slots i d in
    let tail = drop (i + 1) slots in
    let split : slots ≡ take i slots ++ s ∷ tail =
    sym (take-append-drop i slots) ∙ ap (λ (t : List Slot). take i slots ++ t) (drop_more slots i d below) in
    sym (
    ap (λ (t : List Slot). first_where q (places_in t r)) split
    ∙ ap (first_where q) (places_in-append (take i slots) (s ∷ tail) r)
    ∙ first_where-skip q (places_in (take i slots) r) (places_in (s ∷ tail) r) so
    ∙ hit q s r (places_in tail r) it
    )
