-- The bytes that say which watched names are in some bytes, for example in all bytes of a certificate.
use Rattle.std.specs.Prelude.{◌≡◌, ◌⊎◌, ◌+◌, ◌++◌, ℕ, List, [], ◌∷◌, Option, Some, None}
use Rattle.std.specs.Str.{str_to_ascii_lowercase}
use Rattle.ct_codec.specs.Bytes.{num}
use Rattle.ct_names.specs.InBytes.{IsNameIn}
use Rattle.ct_names.specs.FoundBytes.{AreWatched}

-- the bytes of a watched name that is found: its position in 8 bytes, and 3 in one byte; include/wagtenib.h has the same
abbrev pub place_bytes : ℕ → List ℕ
place_bytes position = num 8 position ++ 3 ∷ []

-- The name at this position is in the bytes, and the text is its place; or it is not in the bytes, and the text is empty.
abbrev pub TellsName : ℕ → List ℕ → List ℕ → List ℕ → Type 0
TellsName position bytes name text = (IsNameIn bytes name × (text ≡ place_bytes position)) ⊎ ((IsNameIn bytes name → ⊥) × (text ≡ []))

-- the text has the places of those of the names that are in the bytes, in order; the first of the names has this position
abbrev pub TellsNames : ℕ → List ℕ → List (List ℕ) → List ℕ → Type 0
TellsNames position bytes [] text = text ≡ []
TellsNames position bytes (name ∷ names) text =
    (here rest : List ℕ) × TellsName position bytes name here × TellsNames (position + 1) bytes names rest × (text ≡ here ++ rest)

-- The text has the places of those of the watched names that are in the bytes, without regard to the case of ASCII letters. There is no text if the watched
-- names are not a list.
abbrev pub IsInBytesText : List ℕ → List ℕ → Option (List ℕ) → Type 0
IsInBytesText bytes watched (Some text) =
    (names : List (List ℕ)) × AreWatched names watched × TellsNames 0 (str_to_ascii_lowercase bytes) names text
IsInBytesText bytes watched None = (names : List (List ℕ)) → AreWatched names watched → ⊥
