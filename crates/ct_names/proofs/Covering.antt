-- The meaning of covering, by labels.
use Rattle.std.proofs.Common.{◌≡◌, ◌-◌, ℕ, Bool, true, false, cond, eqb, ltb, List, [], ◌∷◌, ◌++◌, length, take, drop, Option, Some, None, refl, sym, ap, ◌∙◌, ◌⊎◌, inl, inr, arith}
use Rattle.std.specs.Prelude.{slice_index_or, ◌&&◌, ◌||◌}
use Rattle.std.specs.Bool.{Decides}
use Rattle.std.specs.Str.{str_eq_ignore_ascii_case, str_to_ascii_lowercase}
use Rattle.std.specs.Char.{to_ascii_lowercase}
use Rattle.std.proofs.Math.Seq.{get_or-append_seam}
use Rattle.std.proofs.lemmas.Slice.Eq.{bytes_eq-Decides}
use Rattle.std.proofs.lemmas.Bool.{eqb-true, ne_eqb, le-ltb}
use Rattle.std.proofs.lemmas.Bool.Decides.{eqb_tells}
use Rattle.std.proofs.lemmas.List.{take-append-drop, length-append, length-map, take_at, drop_at}
use Rattle.ct_names.specs.Covers.{behind_first, ends_label, plain_of, at_or_below, star_parent, one_parent, wildcard_over, covered, Same, EndsLabel, AtOrBelow, IsLabel, IsWildcardOver}
use Rattle.ct_names.specs.Laws.{CoveringIsByLabels}

pub and_true : (a b : Bool) → (a && b) ≡ true → (a ≡ true) × (b ≡ true)
and_true true b e = (refl, e)
and_true false b e = absurd cc

not_below : (b x : Bool) → cond b false x ≡ true → (b ≡ false) × (x ≡ true)
not_below true x e = absurd cc
not_below false x e = (refl, e)

-- ---- the end of a label

split_last : (x : ℕ) (p : List ℕ) → (q : List ℕ) × (y : ℕ) × (x ∷ p ≡ q ++ (y ∷ []))
split_last x [] = ([], x, refl)
split_last x (y ∷ p) = let s = split_last y p in (x ∷ s.0, s.1, ap (λ (t : List ℕ). x ∷ t) s.2)

last_is : (q : List ℕ) (y : ℕ) → slice_index_or (q ++ (y ∷ [])) (length (q ++ (y ∷ [])) - 1) 0 ≡ y
last_is q y =
    let size = length-append q (y ∷ []) in
    let k : length (q ++ (y ∷ [])) - 1 ≡ length q = omega (arith, size) in
    rw k (get_or-append_seam q y [] 0)

ends_is : (q : List ℕ) (y : ℕ) → ends_label (q ++ (y ∷ [])) ≡ eqb y 46
ends_is q y =
    let size = length-append q (y ∷ []) in
    let some : eqb (length (q ++ (y ∷ []))) 0 ≡ false = ne_eqb (length (q ++ (y ∷ []))) 0 (λ e. absurd (omega (arith, size, e))) in
    rw (some, last_is q y) refl

no_cons : (x : ℕ) (p : List ℕ) → x ∷ p ≡ [] → ⊥
no_cons x p e = cc

label_end : (p : List ℕ) → Decides (ends_label p) (EndsLabel p)
label_end [] = (λ t. inl refl, λ e. refl)
label_end (x ∷ p) =
    let s = split_last x p in
    let is : ends_label (x ∷ p) ≡ eqb s.1 46 = ap ends_label s.2 ∙ ends_is s.0 s.1 in (
      λ t. inr (s.0, s.2 ∙ ap (λ (y : ℕ). s.0 ++ (y ∷ [])) (eqb-true s.1 46 (sym is ∙ t))),
      λ e. elim e [
        | inl h ↦ absurd (no_cons x p h)
        | inr h ↦ ap ends_label h.1 ∙ ends_is h.0 46
      ],
    )

-- ---- the watched name or below it

pub same_tells : (a b : List ℕ) → Decides (str_eq_ignore_ascii_case a b) (Same a b)
same_tells a b = bytes_eq-Decides (str_to_ascii_lowercase a) (str_to_ascii_lowercase b)

same_size : (a b : List ℕ) → Same a b → length a ≡ length b
same_size a b e = sym (length-map a to_ascii_lowercase) ∙ ap length e ∙ length-map b to_ascii_lowercase

below_tells : (n w : List ℕ) → Decides (at_or_below n w) (AtOrBelow n w)
unfolding at_or_below
below_tells n w =
    let k = length n - length w in (
      λ t. (let g = not_below (ltb (length n) (length w)) (ends_label (take k n) && str_eq_ignore_ascii_case (drop k n) w) t in
          let b = and_true (ends_label (take k n)) (str_eq_ignore_ascii_case (drop k n) w) g.1 in
          (take k n, drop k n, sym (take-append-drop k n), (label_end (take k n)).0 b.0, (same_tells (drop k n) w).0 b.1)),
      λ (p, v, e, l, s). (let size = same_size v w s in
          let whole = ap length e ∙ length-append p v in
          let cut : length p ≡ length n - length w = omega (arith, size, whole) in
          let front : take (length n - length w) n ≡ p = ap (take (length n - length w)) e ∙ take_at p v (length n - length w) cut in
          let back : drop (length n - length w) n ≡ v = ap (drop (length n - length w)) e ∙ drop_at p v (length n - length w) cut in
          rw (le-ltb (length n) (length w) (omega (arith, size, whole)), front, back, (label_end p).1 l, (same_tells v w).1 s) refl),
    )

-- ---- wildcards

-- the meaning of a cut at the first dot
abbrev CutAtDot : List ℕ → Option (List ℕ) → Type 0
CutAtDot w None = IsLabel w
CutAtDot w (Some r) = (l : List ℕ) × IsLabel l × (w ≡ l ++ (46 ∷ r))

longer : (x : ℕ) (w : List ℕ) (o : Option (List ℕ)) → (x ≡ 46 → ⊥) → CutAtDot w o → CutAtDot (x ∷ w) o
longer x w None other is = (other, is)
longer x w (Some r) other (l, is, e) = (x ∷ l, (other, is), ap (λ (t : List ℕ). x ∷ t) e)

cut_tells : (w : List ℕ) → CutAtDot w (behind_first 46 w)
cut_tells [] = tt
cut_tells (x ∷ w) =
    elim (eqb_tells x 46) [
      | inl p ↦ rw p.0 ([], tt, ap (λ (y : ℕ). y ∷ w) p.1)
      | inr p ↦ rw p.0 (longer x w (behind_first 46 w) p.1 (cut_tells w))
    ]

pub behind_here : (l r : List ℕ) → IsLabel l → behind_first 46 (l ++ (46 ∷ r)) ≡ Some r
behind_here [] r is = refl
behind_here (x ∷ l) r is = rw (ne_eqb x 46 is.0) (behind_here l r is.1)

-- the meaning of a star
abbrev StarOf : List ℕ → Option (List ℕ) → Type 0
StarOf n None = (t : List ℕ) → n ≡ 42 ∷ 46 ∷ t → ⊥
StarOf n (Some t) = n ≡ 42 ∷ 46 ∷ t

no_star : (a : ℕ) (t : List ℕ) → a ∷ [] ≡ 42 ∷ 46 ∷ t → ⊥
no_star a t e = cc

no_nil : (t : List ℕ) → [] ≡ 42 ∷ 46 ∷ t → ⊥
no_nil t e = cc

first_of_two : (a b c d : ℕ) (s t : List ℕ) → a ∷ b ∷ s ≡ c ∷ d ∷ t → a ≡ c
first_of_two a b c d s t e = cc

second_of_two : (a b c d : ℕ) (s t : List ℕ) → a ∷ b ∷ s ≡ c ∷ d ∷ t → b ≡ d
second_of_two a b c d s t e = cc

star_tells : (n : List ℕ) → StarOf n (star_parent n)
unfolding star_parent
star_tells [] = no_nil
star_tells (a ∷ []) = no_star a
star_tells (a ∷ b ∷ s) =
    elim (eqb_tells a 42) [
      | inl p ↦ elim (eqb_tells b 46) [
        | inl q ↦ rw (p.0, q.0) (ap (λ (y : ℕ). y ∷ b ∷ s) p.1 ∙ ap (λ (y : ℕ). 42 ∷ y ∷ s) q.1)
        | inr q ↦ rw (p.0, q.0) (λ t e. q.1 (second_of_two a b 42 46 s t e))
      ]
      | inr p ↦ rw p.0 (λ t e. p.1 (first_of_two a b 42 46 s t e))
    ]

star_here : (t : List ℕ) → star_parent (42 ∷ 46 ∷ t) ≡ Some t
unfolding star_parent
star_here t = refl

parents : (n w : List ℕ) (o r : Option (List ℕ)) → StarOf n o → CutAtDot w r → one_parent o r ≡ true → IsWildcardOver n w
parents n w None r s c e = absurd cc
parents n w (Some t) None s c e = absurd cc
parents n w (Some t) (Some r) s (l, is, text) e = (t, l, r, s, is, text, (same_tells r t).0 e)

pub wildcard_tells : (n w : List ℕ) → Decides (wildcard_over n w) (IsWildcardOver n w)
unfolding wildcard_over
wildcard_tells n w = (
  λ e. parents n w (star_parent n) (behind_first 46 w) (star_tells n) (cut_tells w) e,
  λ (t, l, r, s, is, text, same).
      ap (λ (x : List ℕ). one_parent (star_parent x) (behind_first 46 w)) s ∙ ap (λ (x : List ℕ). one_parent (star_parent (42 ∷ 46 ∷ t)) (behind_first 46 x)) text
      ∙ rw (star_here t, behind_here l r is) ((same_tells r t).1 same),
)

-- ---- both

pub no_truth : false ≡ true → ⊥
no_truth e = cc

pub either_tells : {P Q : Type 0} (a b : Bool) → Decides a P → Decides b Q → Decides (a || b) (P ⊎ Q)
either_tells true b p q = (λ e. inl (p.0 refl), λ e. refl)
either_tells false b p q = (λ e. inr (q.0 e), λ e. elim e [ inl h ↦ absurd (no_truth (p.1 h)) | inr h ↦ q.1 h ])

pub covering_is_by_labels : CoveringIsByLabels
unfolding covered
covering_is_by_labels name w =
    either_tells (at_or_below (plain_of name) w) (wildcard_over (plain_of name) w) (below_tells (plain_of name) w) (wildcard_tells (plain_of name) w)
