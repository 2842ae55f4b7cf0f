-- The perfect subtrees of a list: one more leaf, and the root.
use Rattle.std.proofs.Common.{◌≡◌, ℕ, zero, suc, ◌+◌, ◌-◌, ◌*◌, ◌/◌, ◌%◌, ◌<◌, ◌≤◌, refl, sym, ◌∙◌, ap, arith, List, [], ◌∷◌, ◌++◌, length, take, drop, get_or}
use Rattle.std.proofs.Common.{length-drop, append_assoc, add-one, ⊎_elim}
use Rattle.std.proofs.lemmas.Bool.{cases_lt}
use Rattle.std.proofs.lemmas.List.{append-nil, length-take-le, take-append-drop, take_all, drop_all, length_push, nil_from_length, take_at, drop_at, get_or_at}
use Rattle.std.proofs.lemmas.List.{take-take}
use Rattle.std.proofs.Math.Arith.{bin_ind}
use Rattle.ct_tree.proofs.Mth.{mth-nil, mth-one, mth-level, length_level, level_small}
use Rattle.ct_tree.specs.Tree.{hash_node, mth}
use Rattle.ct_tree.specs.Levels.{level}
use Rattle.ct_tree.specs.Peaks.{peaks_within, peaks, root_of_peaks}

pub level-append : (H : List ℕ → List ℕ) (A B : List (List ℕ)) → length A % 2 ≡ 0 → level H (A ++ B) ≡ level H A ++ level H B
unfolding level
level-append H [] B e = refl
level-append H (x ∷ []) B e = absurd (omega arith)
level-append H (x ∷ y ∷ A) B e = ap (λ r. hash_node H x y ∷ r) (level-append H A B (omega arith))

peaks_none : (H : List ℕ → List ℕ) (d : ℕ) → peaks_within H d [] ≡ []
unfolding peaks_within level
peaks_none H zero = refl
peaks_none H (suc d) = append-nil (peaks_within H d []) ∙ peaks_none H d

-- the leaves in pairs
pub length_pairs : (H : List ℕ → List ℕ) (D : List (List ℕ)) → length (level H (take (2 * (length D / 2)) D)) ≡ length D / 2
length_pairs H D = omega (arith, length_level H (take (2 * (length D / 2)) D), length-take-le (2 * (length D / 2)) D (omega arith))

peaks_enough : (H : List ℕ → List ℕ) (d e : ℕ) (D : List (List ℕ)) → length D ≤ d → length D ≤ e → peaks_within H d D ≡ peaks_within H e D
unfolding peaks_within
peaks_enough H zero e D p q = let f : D ≡ [] = nil_from_length D (omega arith) in rw f (sym (peaks_none H e))
peaks_enough H (suc d) zero D p q = let f : D ≡ [] = nil_from_length D (omega arith) in rw f (peaks_none H (suc d))
peaks_enough H (suc d) (suc e) D p q =
    ap (λ r. r ++ drop (2 * (length D / 2)) D)
    (peaks_enough H d e (level H (take (2 * (length D / 2)) D)) (omega (arith, length_pairs H D)) (omega (arith, length_pairs H D)))

pub peaks-nil : (H : List ℕ → List ℕ) → peaks H [] ≡ []
unfolding peaks
peaks-nil H = peaks_none H 0

pub peaks-step : (H : List ℕ → List ℕ) (D : List (List ℕ)) → peaks H D ≡ peaks H (level H (take (2 * (length D / 2)) D)) ++ drop (2 * (length D / 2)) D
unfolding peaks peaks_within
peaks-step H D =
    peaks_enough H (length D) (suc (length D)) D (omega arith) (omega arith)
    ∙ ap (λ r. r ++ drop (2 * (length D / 2)) D)
    (peaks_enough H (length D) (length (level H (take (2 * (length D / 2)) D))) (level H (take (2 * (length D / 2)) D))
    (omega (arith, length_pairs H D)) (omega arith))

-- ---- a list of an even length, and one of an odd length
pub peaks-even : (H : List ℕ → List ℕ) (D : List (List ℕ)) → length D % 2 ≡ 0 → peaks H D ≡ peaks H (level H D)
peaks-even H D e =
    let n : 2 * (length D / 2) ≡ length D = omega arith in
    peaks-step H D
    ∙ rw (take_all (2 * (length D / 2)) D (omega arith), drop_all (2 * (length D / 2)) D (omega arith)) (append-nil (peaks H (level H D)))

pub peaks-odd : (H : List ℕ → List ℕ) (E : List (List ℕ)) (y : List ℕ) → length E % 2 ≡ 0 → peaks H (E ++ y ∷ []) ≡ peaks H (level H E) ++ y ∷ []
peaks-odd H E y e =
    let n : 2 * (length (E ++ y ∷ []) / 2) ≡ length E = omega (arith, length_push E y) in
    peaks-step H (E ++ y ∷ [])
    ∙ rw (n, take_at E (y ∷ []) (length E) refl, drop_at E (y ∷ []) (length E) refl) refl

pub data Parity (D : List (List ℕ)) : Type 0 where
  even : length D % 2 ≡ 0 → Parity D
  odd : (E : List (List ℕ)) (y : List ℕ) → D ≡ E ++ y ∷ [] → length E % 2 ≡ 0 → Parity D

last_of : (D : List (List ℕ)) → length D ≡ 1 → (y : List ℕ) × (D ≡ y ∷ [])
last_of [] e = absurd (omega arith)
last_of (y ∷ []) e = (y, refl)
last_of (y ∷ z ∷ D) e = absurd (omega arith)

pub parity : (D : List (List ℕ)) → Parity D
parity D =
    ⊎_elim
    (λ (h : length D % 2 < 1). even (omega arith))
    (λ (h : 1 ≤ length D % 2).
    let l = last_of (drop (length D - 1) D) (omega (arith, length-drop (length D - 1) D)) in
    odd (take (length D - 1) D) l.0 (sym (take-append-drop (length D - 1) D) ∙ ap (λ r. take (length D - 1) D ++ r) l.1)
    (omega (arith, length-take-le (length D - 1) D (omega arith))))
    (cases_lt (length D % 2) 1)

level_two : (H : List ℕ → List ℕ) (E : List (List ℕ)) (y x : List ℕ) → length E % 2 ≡ 0 → level H ((E ++ y ∷ []) ++ x ∷ []) ≡ level H E ++ hash_node H y x ∷ []
unfolding level
level_two H E y x e = rw (append_assoc E (y ∷ []) (x ∷ [])) (level-append H E (y ∷ x ∷ []) e)

level_last : (H : List ℕ → List ℕ) (E : List (List ℕ)) (x : List ℕ) → length E % 2 ≡ 0 → level H (E ++ x ∷ []) ≡ level H E ++ x ∷ []
unfolding level
level_last H E x e = level-append H E (x ∷ []) e

-- ---- one more leaf, by the parity of the leaves before it
pub peaks-push_even : (H : List ℕ → List ℕ) (D : List (List ℕ)) (x : List ℕ) → length D % 2 ≡ 0 → peaks H (D ++ x ∷ []) ≡ peaks H D ++ x ∷ []
peaks-push_even H D x e = peaks-odd H D x e ∙ ap (λ r. r ++ x ∷ []) (sym (peaks-even H D e))

pub peaks-push_odd : (H : List ℕ → List ℕ) (E : List (List ℕ)) (y x : List ℕ) → length E % 2 ≡ 0
    → peaks H ((E ++ y ∷ []) ++ x ∷ []) ≡ peaks H (level H E ++ hash_node H y x ∷ [])
peaks-push_odd H E y x e =
    peaks-even H ((E ++ y ∷ []) ++ x ∷ []) (omega (arith, length_push (E ++ y ∷ []) x, length_push E y))
    ∙ ap (peaks H) (level_two H E y x e)

-- ---- the root
root-join : (H : List ℕ → List ℕ) (q : List (List ℕ)) (y r : List ℕ) → root_of_peaks H ((q ++ y ∷ []) ++ r ∷ []) ≡ root_of_peaks H (q ++ hash_node H y r ∷ [])
unfolding root_of_peaks
root-join H [] y r = refl
root-join H (a ∷ []) y r = refl
root-join H (a ∷ b ∷ q) y r = ap (hash_node H a) (root-join H (b ∷ q) y r)

root-with_none : (H : List ℕ → List ℕ) (D : List (List ℕ)) (r : List ℕ) → length D ≡ 0 → root_of_peaks H (peaks H D ++ r ∷ []) ≡ mth H (D ++ r ∷ [])
unfolding root_of_peaks
root-with_none H D r e = let f : D ≡ [] = nil_from_length D e in rw (f, peaks-nil H) (sym (mth-one H r))

-- the roots of the perfect subtrees of D and one more node r yield the root of D followed by the leaf r
root-with : (H : List ℕ → List ℕ) (n : ℕ) (D : List (List ℕ)) (r : List ℕ) → length D ≡ n → root_of_peaks H (peaks H D ++ r ∷ []) ≡ mth H (D ++ r ∷ [])
root-with H =
    bin_ind (λ n. (D : List (List ℕ)) (r : List ℕ) → length D ≡ n → root_of_peaks H (peaks H D ++ r ∷ []) ≡ mth H (D ++ r ∷ []))
    (λ D r e. root-with_none H D r e) (λ n ih D r e. step n ih D r e (parity D))
  where
    step : (n : ℕ) → ((D : List (List ℕ)) (r : List ℕ) → length D ≡ n / 2 → root_of_peaks H (peaks H D ++ r ∷ []) ≡ mth H (D ++ r ∷ []))
        → (D : List (List ℕ)) (r : List ℕ) → length D ≡ n → Parity D → root_of_peaks H (peaks H D ++ r ∷ []) ≡ mth H (D ++ r ∷ [])
    step n ih D r e (even f) =
        ⊎_elim
        (λ (some : 0 < length D).
        ap (λ q. root_of_peaks H (q ++ r ∷ [])) (peaks-even H D f)
        ∙ ih (level H D) r (omega (arith, length_level H D))
        ∙ ap (mth H) (sym (level_last H D r f))
        ∙ sym (mth-level H (D ++ r ∷ []) (omega (arith, length_push D r))))
        (λ (none : length D ≤ 0). root-with_none H D r (omega arith))
        (cases_lt 0 (length D))
    step n ih D r e (odd E y g f) =
        rw g
        (ap (λ q. root_of_peaks H (q ++ r ∷ [])) (peaks-odd H E y f)
        ∙ root-join H (peaks H (level H E)) y r
        ∙ ih (level H E) (hash_node H y r) (omega (arith, length_level H E, ap length g, length_push E y))
        ∙ ap (mth H) (sym (level_two H E y r f))
        ∙ sym (mth-level H ((E ++ y ∷ []) ++ r ∷ []) (omega (arith, length_push (E ++ y ∷ []) r, length_push E y))))

root_at : (H : List ℕ → List ℕ) (n : ℕ) (D : List (List ℕ)) → length D ≡ n → root_of_peaks H (peaks H D) ≡ mth H D
unfolding root_of_peaks
root_at H =
    bin_ind (λ n. (D : List (List ℕ)) → length D ≡ n → root_of_peaks H (peaks H D) ≡ mth H D)
    (λ D e. none D e) (λ n ih D e. step n ih D e (parity D))
  where
    none : (D : List (List ℕ)) → length D ≡ 0 → root_of_peaks H (peaks H D) ≡ mth H D
    none D e = let f : D ≡ [] = nil_from_length D e in rw (f, peaks-nil H) (sym (mth-nil H))

    step : (n : ℕ) → ((D : List (List ℕ)) → length D ≡ n / 2 → root_of_peaks H (peaks H D) ≡ mth H D)
        → (D : List (List ℕ)) → length D ≡ n → Parity D → root_of_peaks H (peaks H D) ≡ mth H D
    step n ih D e (even f) =
        ⊎_elim
        (λ (some : 0 < length D).
        ap (root_of_peaks H) (peaks-even H D f)
        ∙ ih (level H D) (omega (arith, length_level H D))
        ∙ sym (mth-level H D (omega arith)))
        (λ (no : length D ≤ 0). none D (omega arith))
        (cases_lt 0 (length D))
    step n ih D e (odd E y g f) =
        rw g
        (ap (root_of_peaks H) (peaks-odd H E y f)
        ∙ root-with H (length (level H E)) (level H E) y refl
        ∙ ⊎_elim
        (λ (some : 0 < length E).
        ap (mth H) (sym (level_last H E y f)) ∙ sym (mth-level H (E ++ y ∷ []) (omega (arith, length_push E y))))
        (λ (no : length E ≤ 0). ap (λ q. mth H (q ++ y ∷ [])) (level_small H E (omega arith)))
        (cases_lt 0 (length E)))

pub root_of_peaks-peaks : (H : List ℕ → List ℕ) (D : List (List ℕ)) → root_of_peaks H (peaks H D) ≡ mth H D
root_of_peaks-peaks H D = root_at H (length D) D refl

pub root_of_peaks-drop : (H : List ℕ → List ℕ) (q : List (List ℕ)) (i : ℕ) (d : List ℕ) → i + 1 < length q
    → root_of_peaks H (drop i q) ≡ hash_node H (get_or q i d) (root_of_peaks H (drop (i + 1) q))
unfolding root_of_peaks
root_of_peaks-drop H q i d h = rw add-one (at_suc q i h)
  where
    at_suc : (q : List (List ℕ)) (i : ℕ) → i + 1 < length q → root_of_peaks H (drop i q) ≡ hash_node H (get_or q i d) (root_of_peaks H (drop (suc i) q))
    at_suc [] i h = absurd (omega arith)
    at_suc (x ∷ []) i h = absurd (omega arith)
    at_suc (x ∷ y ∷ q) zero h = refl
    at_suc (x ∷ y ∷ q) (suc i) h = at_suc (y ∷ q) i (omega arith)

pub root_of_peaks-last : (H : List ℕ → List ℕ) (q : List (List ℕ)) (d : List ℕ) → 0 < length q
    → root_of_peaks H (drop (length q - 1) q) ≡ get_or q (length q - 1) d
unfolding root_of_peaks
root_of_peaks-last H [] d h = absurd (omega arith)
root_of_peaks-last H (x ∷ []) d h = refl
root_of_peaks-last H (x ∷ y ∷ q) d h =
    let e : length (x ∷ y ∷ q) - 1 ≡ suc (length (y ∷ q) - 1) = omega arith in
    rw e (root_of_peaks-last H (y ∷ q) d (omega arith))

-- ---- the subtrees of an odd number of leaves: the last one is the last leaf
pub record OddParts (H : List ℕ → List ℕ) (size : ℕ) (q D : List (List ℕ)) : Type 0 where
  pub front : List (List ℕ)
  pub last : List ℕ
  pub whole : D ≡ front ++ last ∷ []
  pub even_front : length front % 2 ≡ 0
  pub some : 0 < length q
  pub rest : take (length q - 1) q ≡ peaks H (level H front)
  pub end : (d : List ℕ) → get_or q (length q - 1) d ≡ last
  pub half : size / 2 ≡ length (level H front)

pub odd_parts : (H : List ℕ → List ℕ) (size : ℕ) (q D : List (List ℕ)) → size ≡ length D → q ≡ peaks H D → (size % 2 ≡ 0 → ⊥) → OddParts H size q D
odd_parts H size q D e f o = by_parity (parity D)
  where
    by_parity : Parity D → OddParts H size q D
    by_parity (even g) = absurd (o (omega arith))
    by_parity (odd E y g h) =
        let s : q ≡ peaks H (level H E) ++ y ∷ [] = f ∙ ap (peaks H) g ∙ peaks-odd H E y h in
        let n : length (peaks H (level H E)) ≡ length q - 1 = omega (arith, ap length s, length_push (peaks H (level H E)) y) in
        record {
          front = E;
          last = y;
          whole = g;
          even_front = h;
          some = omega (arith, ap length s, length_push (peaks H (level H E)) y);
          rest = ap (take (length q - 1)) s ∙ take_at (peaks H (level H E)) (y ∷ []) (length q - 1) n;
          end = λ d. ap (λ r. get_or r (length q - 1) d) s ∙ get_or_at (peaks H (level H E)) y [] d (length q - 1) n;
          half = omega (arith, ap length g, length_push E y, length_level H E);
        }

-- no subtrees mean no leaves
pub peaks-some : (H : List ℕ → List ℕ) (D : List (List ℕ)) → length (peaks H D) ≡ 0 → D ≡ []
peaks-some H D = some_at (length D) D refl
  where
    some_at : (n : ℕ) (D : List (List ℕ)) → length D ≡ n → length (peaks H D) ≡ 0 → D ≡ []
    some_at = bin_ind (λ n. (D : List (List ℕ)) → length D ≡ n → length (peaks H D) ≡ 0 → D ≡ [])
        (λ D e h. nil_from_length D e)
        (λ n ih D e h. step n ih D e h (parity D))
      where
        step : (n : ℕ) → ((D : List (List ℕ)) → length D ≡ n / 2 → length (peaks H D) ≡ 0 → D ≡ []) → (D : List (List ℕ)) → length D ≡ n
            → length (peaks H D) ≡ 0 → Parity D → D ≡ []
        step n ih D e h (even g) =
            let i = ih (level H D) (omega (arith, length_level H D)) (ap length (sym (peaks-even H D g)) ∙ h) in
            nil_from_length D (omega (arith, length_level H D, ap length i))
        step n ih D e h (odd E y f g) = absurd (omega (arith, ap length (ap (peaks H) f ∙ peaks-odd H E y g), length_push (peaks H (level H E)) y))

pub carry_up : (H : List ℕ → List ℕ) (size : ℕ) (q D : List (List ℕ)) (leaf joined root : List ℕ) (kept : ℕ) (p : OddParts H size q D)
    → joined ≡ hash_node H (get_or q (length q - 1) []) leaf → kept ≤ length (take (length q - 1) q)
    → take kept (take (length q - 1) q) ++ root ∷ [] ≡ peaks H (level H p.front ++ joined ∷ [])
    → take kept q ++ root ∷ [] ≡ peaks H (D ++ leaf ∷ [])
carry_up H size q D leaf joined root kept p e k h =
    ap (λ r. r ++ root ∷ []) (sym (take-take kept (length q - 1) q (omega (arith, length-take-le (length q - 1) q (omega arith)))))
    ∙ h
    ∙ ap (λ b. peaks H (level H p.front ++ b ∷ [])) (e ∙ ap (λ y. hash_node H y leaf) (p.end []))
    ∙ sym (peaks-push_odd H p.front p.last leaf p.even_front)
    ∙ ap (λ d. peaks H (d ++ leaf ∷ [])) (sym p.whole)

pub root_of_peaks-before : (H : List ℕ → List ℕ) (q : List (List ℕ)) (i : ℕ) (r s : List ℕ) → 0 < i → i < length q
    → r ≡ root_of_peaks H (drop i q) → s ≡ hash_node H (get_or q (i - 1) []) r → s ≡ root_of_peaks H (drop (i - 1) q)
root_of_peaks-before H q i r s z l e f =
    let j : i - 1 + 1 ≡ i = omega arith in
    let h = root_of_peaks-drop H q (i - 1) [] (omega arith) in
    f ∙ ap (hash_node H (get_or q (i - 1) [])) e ∙ sym (rw j at h)
