-- The partial tiles of a log's edge, level by level.
use Rattle.std.proofs.Common.{◌≡◌, ◌∙◌, ◌-◌, ◌/◌, ◌<◌, ℕ, zero, suc, List, [], ◌∷◌, ◌++◌, length, map, Bool, true, false, Vec, Global, Option, Some, None, refl, sym, ap, arith, append-nil, append_assoc}
use Rattle.std.proofs.lemmas.Bool.{eqb-true}
use Rattle.std.specs.Prelude.{◌==◌, option_map, option_and_then}
use Rattle.ct_step.specs.StepAnswers.{edge_part, level_parts, edge_of, if_none_left}

-- the result with tiles before its own
abbrev pub behind_tiles : List (List ℕ) → Option (List (List ℕ) × List (List ℕ)) → Option (List (List ℕ) × List (List ℕ))
behind_tiles T o = option_map (λ q. (T ++ q.0, q.1)) o

pub parts_none : (levels n : ℕ) (T C : List (List ℕ)) → levels ≡ 0 → Some (T, C) ≡ behind_tiles T (level_parts levels n C)
unfolding level_parts
parts_none zero n T C e = ap (λ l. Some (l, C)) (sym (append-nil T))
parts_none (suc levels) n T C e = absurd (omega (arith, e))

pub parts_short : (levels n : ℕ) (T C : List (List ℕ)) → 0 < levels → None ≡ edge_part n C → None ≡ behind_tiles T (level_parts levels n C)
unfolding level_parts
parts_short zero n T C some e = absurd (omega (arith, some))
parts_short (suc levels) n T C some e =
    ap (λ o. behind_tiles T (option_and_then (λ p. option_map (λ q. (p.0 ∷ q.0, q.1)) (level_parts levels (n / 256) p.1)) o)) e

one_in_front : (T : List (List ℕ)) (p : List ℕ) (o : Option (List (List ℕ) × List (List ℕ)))
    → behind_tiles (T ++ p ∷ []) o ≡ behind_tiles T (option_map (λ q. (p ∷ q.0, q.1)) o)
one_in_front T p None = refl
one_in_front T p (Some q) = ap (λ l. Some (l, q.1)) (append_assoc T (p ∷ []) q.0)

parts_next : (levels n : ℕ) (T C R : List (List ℕ)) (p : List ℕ) → Some (p, R) ≡ edge_part n C
    → behind_tiles (T ++ p ∷ []) (level_parts levels (n / 256) R) ≡ behind_tiles T (level_parts (suc levels) n C)
unfolding level_parts
parts_next levels n T C R p e =
    one_in_front T p (level_parts levels (n / 256) R)
    ∙ ap (λ o. behind_tiles T (option_and_then (λ p. option_map (λ q. (p.0 ∷ q.0, q.1)) (level_parts levels (n / 256) p.1)) o)) e

pub parts_more : (levels n : ℕ) (T C R : List (List ℕ)) (p : List ℕ) → 0 < levels → Some (p, R) ≡ edge_part n C
    → behind_tiles (T ++ p ∷ []) (level_parts (levels - 1) (n / 256) R) ≡ behind_tiles T (level_parts levels n C)
parts_more levels n T C R p some e =
    let next : suc (levels - 1) ≡ levels = omega (arith, some) in
    parts_next (levels - 1) n T C R p e ∙ ap (λ l. behind_tiles T (level_parts l n C)) next

pub nothing_in_front : (o : Option (List (List ℕ) × List (List ℕ))) → behind_tiles [] o ≡ o
nothing_in_front None = refl
nothing_in_front (Some q) = refl

-- the result after the last level
pub all_levels : (levels n size : ℕ) (T R C : List (List ℕ)) → levels ≡ 0 → behind_tiles T (level_parts levels n R) ≡ level_parts 8 size C
    → level_parts 8 size C ≡ Some (T, R)
all_levels levels n size T R C none e = sym e ∙ sym (parts_none levels n T R none)

-- the edge of the contents if these tiles, and contents after them, were found
pub edge_is : (size : ℕ) (T R C : List (List ℕ)) → level_parts 8 size C ≡ Some (T, R)
    → edge_of size C ≡ option_and_then (λ p. if_none_left (T, p.0) p.1) (edge_part size R)
edge_is size T R C e = ap (λ o. option_and_then (λ q. option_and_then (λ p. if_none_left (q.0, p.0) p.1) (edge_part size q.1)) o) e

pub none_behind : (size : ℕ) (T R C : List (List ℕ)) → level_parts 8 size C ≡ Some (T, R) → None ≡ edge_part size R → None ≡ edge_of size C
none_behind size T R C e none = ap (λ o. option_and_then (λ p. if_none_left (T, p.0) p.1) o) none ∙ sym (edge_is size T R C e)

pub some_behind : (size : ℕ) (T R C : List (List ℕ)) (p : List ℕ) (L : List (List ℕ)) → level_parts 8 size C ≡ Some (T, R)
    → Some (p, L) ≡ edge_part size R → if_none_left (T, p) L ≡ edge_of size C
some_behind size T R C p L e some = ap (λ o. option_and_then (λ p. if_none_left (T, p.0) p.1) o) some ∙ sym (edge_is size T R C e)

pub no_edge : (size : ℕ) (C : List (List ℕ)) → None ≡ level_parts 8 size C → None ≡ edge_of size C
no_edge size C e = ap (λ o. option_and_then (λ q. option_and_then (λ p. if_none_left (q.0, p.0) p.1) (edge_part size q.1)) o) e

abbrev pub bytes_in : Vec ℕ Global → List ℕ
bytes_in v = v.items

-- the result if no content is left, and if one is left
pub none_over : (T : List (List ℕ)) (p : List ℕ) (V : List (Vec ℕ Global)) (e : Bool) → e ≡ (length V == 0) → e ≡ true
    → ◌≡◌ {A = Option (List (List ℕ) × List ℕ)} (Some (T, p)) (if_none_left (T, p) (map bytes_in V))
none_over T p [] e is none = refl
none_over T p (v ∷ V) e is none =
    let n : length (v ∷ V) ≡ 0 = eqb-true (length (v ∷ V)) 0 (sym is ∙ none) in absurd (omega (arith, n))

pub some_over : (T : List (List ℕ)) (p : List ℕ) (V : List (Vec ℕ Global)) (e : Bool) → e ≡ (length V == 0) → e ≡ false
    → ◌≡◌ {A = Option (List (List ℕ) × List ℕ)} None (if_none_left (T, p) (map bytes_in V))
some_over T p [] e is some = absurd (cc)
some_over T p (v ∷ V) e is some = refl
