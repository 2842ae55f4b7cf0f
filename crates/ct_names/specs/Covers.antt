-- The watched names that a name covers, label by label (RFC 9525, section 6.3).
use Rattle.std.specs.Prelude.{◌≡◌, ◌-◌, ◌++◌, ◌⊎◌, ℕ, Bool, true, false, List, [], ◌∷◌, length, take, drop, slice_index_or, Option, Some, None, nat_lt, ◌==◌, ◌&&◌, ◌||◌, if◌then◌else◌}
use Rattle.std.specs.List.{AllByRecursion}
use Rattle.std.specs.Str.{str_eq_ignore_ascii_case, str_to_ascii_lowercase}

-- the bytes after the first byte with this value
abbrev pub behind_first : ℕ → List ℕ → Option (List ℕ)
behind_first byte [] = None
behind_first byte (x ∷ b) = if x == byte then Some b else behind_first byte b

-- whether the last byte is a dot
abbrev pub ends_dot : List ℕ → Bool
ends_dot n = slice_index_or n (length n - 1) 0 == 46

-- whether a label ends at the end of the bytes: there are none, or the last is a dot
abbrev pub ends_label : List ℕ → Bool
ends_label n = if length n == 0 then true else ends_dot n

-- the name without one dot at its end
unfoldable pub plain_of : List ℕ → List ℕ
plain_of n = if length n == 0 then n else (if ends_dot n then take (length n - 1) n else n)

-- whether a name is the watched name or below it
unfoldable pub at_or_below : List ℕ → List ℕ → Bool
at_or_below n w =
    if nat_lt (length n) (length w) then false
    else (ends_label (take (length n - length w) n) && str_eq_ignore_ascii_case (drop (length n - length w) n) w)

-- the bytes after a leading *.
unfoldable pub star_parent : List ℕ → Option (List ℕ)
star_parent [] = None
star_parent (star ∷ []) = None
star_parent (star ∷ dot ∷ t) = if star == 42 then (if dot == 46 then Some t else None) else None

-- whether both exist and are the same text except for case
abbrev pub one_parent : Option (List ℕ) → Option (List ℕ) → Bool
one_parent (Some t) (Some r) = str_eq_ignore_ascii_case r t
one_parent (Some t) None = false
one_parent None _ = false

-- whether a name is a wildcard that matches the watched name
unfoldable pub wildcard_over : List ℕ → List ℕ → Bool
wildcard_over n w = one_parent (star_parent n) (behind_first 46 w)

-- whether a name, without one dot at its end, is the watched name or below it, or a wildcard over it
unfoldable pub covered : List ℕ → List ℕ → Bool
covered name w = at_or_below (plain_of name) w || wildcard_over (plain_of name) w

-- the characters of a BMPString, one byte each, with 255 for characters above 255 (X.690, section 8.23)
abbrev pub narrow : List ℕ → List ℕ
narrow [] = []
narrow (h ∷ []) = []
narrow (h ∷ l ∷ b) = (if h == 0 then l else 255) ∷ narrow b

-- ---- the same in terms of names

-- the same text except for the case of ASCII letters
abbrev pub Same : List ℕ → List ℕ → Type 0
Same a b = str_to_ascii_lowercase a ≡ str_to_ascii_lowercase b

-- p is whole labels, each with the dot after it (that is, p is empty or ends in a dot)
abbrev pub EndsLabel : List ℕ → Type 0
EndsLabel p = (p ≡ []) ⊎ ((q : List ℕ) × (p ≡ q ++ (46 ∷ [])))

-- n is w, or some labels, a dot, and w
abbrev pub AtOrBelow : List ℕ → List ℕ → Type 0
AtOrBelow n w = (p v : List ℕ) × (n ≡ p ++ v) × EndsLabel p × Same v w

-- there is no dot in l: it is one label, perhaps an empty one
abbrev pub IsLabel : List ℕ → Type 0
IsLabel l = AllByRecursion (λ x. x ≡ 46 → ⊥) l

-- n is *.t, and w is t with one more label in front (RFC 9525, section 6.3)
abbrev pub IsWildcardOver : List ℕ → List ℕ → Type 0
IsWildcardOver n w = (t l r : List ℕ) × (n ≡ 42 ∷ 46 ∷ t) × IsLabel l × (w ≡ l ++ (46 ∷ r)) × Same r t

-- the name, without one dot at its end, is the watched name or below it, or a wildcard over it
abbrev pub Covers : List ℕ → List ℕ → Type 0
Covers name w = AtOrBelow (plain_of name) w ⊎ IsWildcardOver (plain_of name) w
