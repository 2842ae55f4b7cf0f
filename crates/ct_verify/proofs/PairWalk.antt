-- One step of the walk up with two roots, and its beginning.
use Rattle.std.proofs.Common.{◌≡◌, ℕ, suc, ◌+◌, ◌-◌, ◌/◌, ◌%◌, ◌<◌, ◌≤◌, refl, sym, ◌∙◌, ap, arith, List, [], ◌∷◌, length, take, drop, get_or, Bool, true}
use Rattle.std.proofs.Common.{false, Some, ⊎_elim, inr}
use Rattle.std.specs.Prelude.{Result, Ok, Err, MatchResult, ◌==◌}
use Rattle.std.proofs.lemmas.Bool.{cases_lt, both_ways, eq-eqb}
use Rattle.std.proofs.lemmas.List.{drop_all, take_all}
use Rattle.ct_tree.proofs.Split.{inside}
use Rattle.ct_tree.proofs.SubproofLength.{subproof_length-up, subproof_length-first, subproof_length-odd}
use Rattle.ct_tree.specs.Lengths.{path_length, subproof_length}
use Rattle.ct_verify.proofs.Both.{both-halved, both-begin_known, both-begin, pair_up-one, pair_up-odd, pair_up-even, pair_up-lone}
use Rattle.ct_verify.proofs.Walk.{up_last, lifted_inside}
use Rattle.ct_verify.specs.Climb.{pair_up, pair_left, pair_right}
use Rattle.ct_verify.specs.Rebuild.{both_roots}
use Rattle.ct_verify.specs.Place.{Lifted, here, above, Halved, start, higher}
use Rattle.ct_verify.specs.Verdict.{RefusesConsistency}
use Rattle.ct_verify.specs.CheckFrom.{WalkRefuses}
use Rattle.ct_verify.specs.declared.fault.ProofFault.{ProofFault}
use Rattle.ct_verify.specs.declared.fault.ProofFault.TheVariants.{IndexOutOfRange, PathTooLong, PathTooShort, RootMismatch, EmptyPath, FirstMismatch}
use Rattle.ct_verify.specs.declared.fault.ProofFault.TheVariants.{SizesOutOfRange}

module _ (H : List ℕ → List ℕ) where
  pub lifted_pair : (z : List ℕ × List ℕ) (p : List (List ℕ)) (a b n l : ℕ) → Lifted a b n l
      → pair_up H a (b + 1) z p ≡ pair_up H n (l + 1) z p
  lifted_pair z p a b n l here = refl
  lifted_pair z p a b n l (above n' l' w e s m) =
      lifted_pair z p a b n' l' w
      ∙ pair_up-lone H n' (l' + 1) z p e (omega arith) (omega arith)
      ∙ ap (λ u. pair_up H (n' / 2) u z p) (up_last l')

  pub pair_walk_left : (z : List ℕ × List ℕ) (c : List ℕ) (p : List (List ℕ)) (a b n l : ℕ) → Lifted a b n l → n % 2 ≡ 1 → a ≤ b
      → pair_up H a (b + 1) z (c ∷ p) ≡ pair_up H (n / 2) (l / 2 + 1) (pair_right H z c) p
  pair_walk_left z c p a b n l w o i =
      let j = lifted_inside a b n l w i in
      lifted_pair z (c ∷ p) a b n l w
      ∙ pair_up-odd H n (l + 1) z c p o (omega arith)
      ∙ ap (λ u. pair_up H (n / 2) u (pair_right H z c) p) (up_last l)

  pub pair_walk_right : (z : List ℕ × List ℕ) (c : List ℕ) (p : List (List ℕ)) (n l : ℕ) → n % 2 ≡ 0 → n < l
      → pair_up H n (l + 1) z (c ∷ p) ≡ pair_up H (n / 2) (l / 2 + 1) (pair_left H z c) p
  pair_walk_right z c p n l o i =
      pair_up-even H n (l + 1) z c p o (omega arith)
      ∙ ap (λ u. pair_up H (n / 2) u (pair_left H z c) p) (up_last l)

  pub pair_at_root : (n l : ℕ) (z : List ℕ × List ℕ) (i : ℕ) (p : List (List ℕ)) → l ≡ 0 → length p ≤ i
      → pair_up H n (l + 1) z (drop i p) ≡ Some z
  pair_at_root n l z i p e h = rw (e, drop_all i p h) (pair_up-one H n z)

  -- ---- the beginning
  pub halved_inside : (a b n l : ℕ) → Halved a b n l → a < b → n < l
  halved_inside a b n l start h = h
  halved_inside a b n l (higher n' l' w o) h =
      let i = halved_inside a b n' l' w h in omega arith

  pub halved_both : (d : Bool) (r : List ℕ) (p : List (List ℕ)) (a b n l : ℕ) → Halved a b n l → a < b
      → both_roots H (a + 1) (b + 1) d r p ≡ both_roots H (n + 1) (l + 1) d r p
  halved_both d r p a b n l start h = refl
  halved_both d r p a b n l (higher n' l' w o) h =
      let i = halved_inside a b n' l' w h in
      let m : (n' + 1) / 2 ≡ n' / 2 + 1 = omega arith in
      halved_both d r p a b n' l' w h
      ∙ both-halved H (n' + 1) (l' + 1) d r p (omega arith) (omega arith) (omega arith)
      ∙ rw (m, up_last l') refl

pub halved_length : (d : Bool) (a b n l : ℕ) → Halved a b n l → a < b → subproof_length (a + 1) (b + 1) d ≡ subproof_length (n + 1) (l + 1) d
halved_length d a b n l start h = refl
halved_length d a b n l (higher n' l' w o) h =
    let H : List ℕ → List ℕ = λ x. x in
    let i = halved_inside H a b n' l' w h in
    let m : (n' + 1) / 2 ≡ n' / 2 + 1 = omega arith in
    halved_length d a b n' l' w h
    ∙ subproof_length-up (l' + 1) (n' + 1) d (omega arith) (omega arith) (inside (omega arith))
    ∙ rw (m, up_last l') refl

-- if the walk from the first value refuses, the proof is refused
pub refused : (H : List ℕ → List ℕ) (m n : ℕ) (x y : List ℕ) (p : List (List ℕ)) (a l : ℕ) (v : List ℕ) (q : List (List ℕ))
    → 0 < m → m < n → 0 < length p
    → both_roots H m n true x p ≡ pair_up H a (l + 1) (v, v) q
    → subproof_length m n true + length q ≡ path_length a (l + 1) + length p
    → (fault : ProofFault) → WalkRefuses H a l v x y q fault → RefusesConsistency H m n x y p fault
refused H m n x y p a l v q z i s e f PathTooLong w = (z, i, omega arith)
refused H m n x y p a l v q z i s e f PathTooShort w = (z, i, s, omega arith)
refused H m n x y p a l v q z i s e f FirstMismatch w = (z, i, (w.0, w.1, e ∙ w.2, w.3))
refused H m n x y p a l v q z i s e f RootMismatch w = (z, i, (w.0, e ∙ w.1, w.2))
refused H m n x y p a l v q z i s e f SizesOutOfRange w = absurd w
refused H m n x y p a l v q z i s e f EmptyPath w = absurd w
refused H m n x y p a l v q z i s e f IndexOutOfRange w = absurd w

-- facts about each result are carried over
pub answer_carried : {T : Type 0} (r : Result T ProofFault) {P P' : Type 0} {Q Q' : ProofFault → Type 0} → (P → P')
    → ((fault : ProofFault) → Q fault → Q' fault)
    → MatchResult r (λ _. P) Q → MatchResult r (λ _. P') Q'
answer_carried (Ok u) f g h = f h
answer_carried (Err e) f g h = g e h

-- the first root is the first value
pub begin_known : (H : List ℕ → List ℕ) (m n : ℕ) (x : List ℕ) (p : List (List ℕ)) (a l : ℕ) → 0 < m → m < n → Halved (m - 1) (n - 1) a l → a ≡ 0
    → both_roots H m n true x p ≡ pair_up H a (l + 1) (x, x) p
begin_known H m n x p a l z i w e =
    let f : m - 1 + 1 ≡ m = omega arith in
    let g : n - 1 + 1 ≡ n = omega arith in
    let h = halved_both H true x p (m - 1) (n - 1) a l w (omega arith) in
    (rw (f, g) at h) ∙ rw e (both-begin_known H (l + 1) x p)

pub begin_known_length : (m n a l : ℕ) → 0 < m → m < n → Halved (m - 1) (n - 1) a l → a ≡ 0 → subproof_length m n true ≡ path_length a (l + 1)
begin_known_length m n a l z i w e =
    let f : m - 1 + 1 ≡ m = omega arith in
    let g : n - 1 + 1 ≡ n = omega arith in
    let h = halved_length true (m - 1) (n - 1) a l w (omega arith) in
    (rw (f, g) at h) ∙ rw e (subproof_length-first (l + 1) (omega arith))

-- the first element is the first value
pub begin : (H : List ℕ → List ℕ) (m n : ℕ) (x v : List ℕ) (p : List (List ℕ)) (a l : ℕ) → 0 < m → m < n → Halved (m - 1) (n - 1) a l → a % 2 ≡ 0 → (a ≡ 0 → ⊥)
    → both_roots H m n true x (v ∷ p) ≡ pair_up H a (l + 1) (v, v) p
begin H m n x v p a l z i w o e =
    let f : m - 1 + 1 ≡ m = omega arith in
    let g : n - 1 + 1 ≡ n = omega arith in
    let j : a + 1 - 1 ≡ a = omega arith in
    let k = halved_inside H (m - 1) (n - 1) a l w (omega arith) in
    let h = halved_both H true x (v ∷ p) (m - 1) (n - 1) a l w (omega arith) in
    (rw (f, g) at h) ∙ both-begin H (a + 1) (l + 1) true x v p (omega arith) (omega arith) (omega arith) ∙ rw j refl

pub begin_length : (m n a l : ℕ) → 0 < m → m < n → Halved (m - 1) (n - 1) a l → a % 2 ≡ 0 → (a ≡ 0 → ⊥) → subproof_length m n true ≡ suc (path_length a (l + 1))
begin_length m n a l z i w o e =
    let f : m - 1 + 1 ≡ m = omega arith in
    let g : n - 1 + 1 ≡ n = omega arith in
    let j : a + 1 - 1 ≡ a = omega arith in
    let k = halved_inside (λ x. x) (m - 1) (n - 1) a l w (omega arith) in
    let h = halved_length true (m - 1) (n - 1) a l w (omega arith) in
    (rw (f, g) at h) ∙ subproof_length-odd (l + 1) (a + 1) true (omega arith) (inr (omega arith)) (inside (omega arith)) ∙ rw j refl

pub not_empty : {X : Type 0} (p : List X) (r : Bool) → r ≡ (length p == 0) → r ≡ false → 0 < length p
not_empty p r e f = ⊎_elim (λ (h : 0 < length p). h)
    (λ (h : length p ≤ 0). absurd (both_ways (length p == 0) (sym e ∙ f) (eq-eqb (length p) 0 (omega arith)))) (cases_lt 0 (length p))

-- a path as its first element and the rest, as `&path[0]` and `&path[1..]` read them
pub first_rest : (p : List (List ℕ)) → 0 < length p → p ≡ get_or p 0 [] ∷ take (length p - 1) (drop 1 p)
first_rest [] h = absurd (omega arith)
first_rest (x ∷ xs) h = ap (λ q. x ∷ q) (sym (take_all (length (x ∷ xs) - 1) xs (omega arith)))

pub begin_at : (H : List ℕ → List ℕ) (m n : ℕ) (x v : List ℕ) (p q : List (List ℕ)) (a l : ℕ) → p ≡ v ∷ q → 0 < m → m < n → Halved (m - 1) (n - 1) a l
    → a % 2 ≡ 0 → (a ≡ 0 → ⊥)
    → both_roots H m n true x p ≡ pair_up H a (l + 1) (v, v) q
begin_at H m n x v p q a l f z i w o e = ap (both_roots H m n true x) f ∙ begin H m n x v q a l z i w o e

pub begin_at_length : (m n a l : ℕ) (v : List ℕ) (p q : List (List ℕ)) → p ≡ v ∷ q → 0 < m → m < n → Halved (m - 1) (n - 1) a l → a % 2 ≡ 0 → (a ≡ 0 → ⊥)
    → subproof_length m n true + length q ≡ path_length a (l + 1) + length p
begin_at_length m n a l v p q f z i w o e = omega (arith, begin_length m n a l z i w o e, ap length f)
