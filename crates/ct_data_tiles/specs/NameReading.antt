-- How the numbers of a name are read. A byte that is not a digit is skipped, since the text is compared with the name in the end.
use Rattle.std.specs.Prelude.{◌≡◌, ℕ, ◌+◌, ◌-◌, ◌*◌, Bool, true, false, nat_lt, nat_eq, if◌then◌else◌, List, [], ◌∷◌}
use Rattle.ct_data_tiles.specs.declared.tile.Content.{Content}
use Rattle.ct_data_tiles.specs.declared.tile.Content.TheVariants.{Hashes, Entries}
use Rattle.ct_data_tiles.specs.declared.tile.Tile.{Tile}

-- a number and one more byte: ten times the number plus the digit, or only the number if the byte is not a digit
abbrev pub with_digit : ℕ → ℕ → ℕ
with_digit n byte = if nat_lt byte 48 then n else if nat_lt 57 byte then n else n * 10 + (byte - 48)

-- the number n, continued by the digits before the first `end`, and the text after that byte
unfoldable pub number_until : ℕ → ℕ → List ℕ → ℕ × List ℕ
number_until end n [] = (n, [])
number_until end n (byte ∷ text) = if nat_eq byte end then (n, text) else number_until end (with_digit n byte) text

-- a tile has entries, not hashes
abbrev pub is_data : Content → Bool
is_data (Hashes level) = false
is_data Entries = true

-- the level of a tile's hashes, or 0 if it has entries
abbrev pub level_number : Content → ℕ
level_number (Hashes level) = level
level_number Entries = 0

-- the width that a name writes, or 0 for a full tile, whose width is not written
abbrev pub width_number : ℕ → ℕ
width_number width = if nat_lt width 256 then width else 0

-- the numbers that were read from a name are those of the tile: whether it has entries (`content`), its level or 0 (`level`), its index
-- (`index`), and its width or 0 (`width`)
pub record HasNumbers (tile : Tile) (entries : Bool) (level_read index_read width_read : ℕ) : Type 0 where
  pub content : entries ≡ is_data tile.content
  pub level : level_read ≡ level_number tile.content
  pub index : index_read ≡ tile.index
  pub width : width_read ≡ width_number tile.width
