-- The watched names that are in some bytes are written one after the other.
use Rattle.std.proofs.Common.{◌≡◌, ◌∙◌, ◌+◌, ◌-◌, ◌<◌, ◌≤◌, ℕ, List, [], ◌∷◌, ◌++◌, length, map, get_or, take, drop, sym, refl, ap, subst, arith, append-nil, append_assoc}
use Rattle.std.proofs.lemmas.List.{take_all}
use Rattle.ct_names.specs.FoundInBytes.{TellsName, TellsNames}

-- the text is that of the first names: with what tells of the rest, it is that of all
abbrev pub GoesOn : List ℕ → List (List ℕ) → List ℕ → ℕ → List (List ℕ) → Type 0
GoesOn low all text position rest = (more : List ℕ) → TellsNames position low rest more → TellsNames 0 low all (text ++ more)

-- .. also with one name more
pub goes_on : {X : Type 0} (f : X → List ℕ) (low text new : List ℕ) (all : List (List ℕ)) (rest : List X) (d : X) (n position : ℕ) → 1 ≤ length rest → n ≡ length rest
    → GoesOn low all text position (map f rest) → (here : List ℕ) × TellsName position low (f (get_or rest 0 d)) here × (new ≡ text ++ here)
    → GoesOn low all new (position + 1) (map f (take (n - 1) (drop 1 rest)))
goes_on f low text new all [] d n position some size k h = absurd (omega (arith, some))
goes_on f low text new all (x ∷ rest) d n position some size k h = λ more t.
    let whole : take (n - 1) (drop 1 (x ∷ rest)) ≡ rest = take_all (n - 1) rest (omega (arith, size)) in
    let tells = subst (λ (r : List _). TellsNames (position + 1) low (map f r) more) whole t in
    subst (λ (l : List ℕ). TellsNames 0 low all l) (sym (ap (λ (l : List ℕ). l ++ more) h.2 ∙ append_assoc text h.0 more))
    (k (h.0 ++ more) (h.0, more, h.1, tells, refl))

pub counted_on : {X : Type 0} (rest : List X) (n position all : ℕ) → 1 ≤ length rest → n ≡ length rest → position + length rest ≡ all
    → (position + 1) + length (take (n - 1) (drop 1 rest)) ≡ all
counted_on [] n position all some size e = absurd (omega (arith, some))
counted_on (x ∷ rest) n position all some size e =
    let whole : take (n - 1) (drop 1 (x ∷ rest)) ≡ rest = take_all (n - 1) rest (omega (arith, size)) in
    omega (arith, size, e, ap length whole)

-- .. until no name is left
pub all_told : {X : Type 0} (f : X → List ℕ) (low text : List ℕ) (all : List (List ℕ)) (rest : List X) (position : ℕ) → length rest < 1
    → GoesOn low all text position (map f rest) → TellsNames 0 low all text
all_told f low text all [] position none k = subst (λ (l : List ℕ). TellsNames 0 low all l) (append-nil text) (k [] refl)
all_told f low text all (x ∷ rest) position none k = absurd (omega (arith, none))
