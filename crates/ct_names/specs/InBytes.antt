-- The watched names that are in some bytes, wherever they are there, so also in the bytes of a certificate that cannot be read.
use Rattle.std.specs.Prelude.{◌≡◌, ◌++◌, ℕ, List, [], ◌∷◌, Option, Some, None, ◌==◌, if◌then◌else◌}
use Rattle.std.specs.Str.{str_to_ascii_lowercase}
use Rattle.ct_names.specs.Covers.{plain_of, star_parent}

-- the name without one dot in front
abbrev pub behind_dot : List ℕ → List ℕ
behind_dot [] = []
behind_dot (x ∷ w) = if x == 46 then w else x ∷ w

-- the part of a name after a leading *., if there is one, and otherwise the name without one dot in front
abbrev pub behind_star : Option (List ℕ) → List ℕ → List ℕ
behind_star (Some parent) w = parent
behind_star None w = behind_dot w

-- the text of a watched name: without one dot at its end, and without the *. or the dot in front
abbrev pub bare_of : List ℕ → List ℕ
bare_of w = behind_star (star_parent (plain_of w)) (plain_of w)

-- the text is somewhere in the bytes
abbrev pub StandsIn : List ℕ → List ℕ → Type 0
StandsIn bytes text = (before after : List ℕ) × (bytes ≡ before ++ (text ++ after))

-- the text of a watched name, in small letters (ASCII), is somewhere in the bytes
abbrev pub IsNameIn : List ℕ → List ℕ → Type 0
IsNameIn bytes w = StandsIn bytes (str_to_ascii_lowercase (bare_of w))
