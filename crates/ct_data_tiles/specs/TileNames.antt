-- The names of tiles (C2SP tlog-tiles, "Merkle Tree"; static-ct-api, "Log Entries"), as the ASCII bytes of their texts.
use Rattle.std.specs.Prelude.{ℕ, zero, suc, ◌+◌, ◌/◌, ◌%◌, ◌^◌, ◌<◌, ◌≤◌, ⊤, nat_lt, if◌then◌else◌, List, [], ◌∷◌, ◌++◌, codes}
use Rattle.ct_data_tiles.specs.declared.tile.Content.{Content}
use Rattle.ct_data_tiles.specs.declared.tile.Content.TheVariants.{Hashes, Entries}
use Rattle.ct_data_tiles.specs.declared.tile.Tile.{Tile}

-- hashes are of a level from 0 to 63
abbrev pub IsContent : Content → Type 0
IsContent (Hashes level) = level ≤ 63
IsContent Entries = ⊤

-- a tile that has a name: it has hashes of a level from 0 to 63 or entries (`content`), 1 to 256 of them (`some`, `most`), and its index
-- has 64 bits (`index`)
pub record IsTile (tile : Tile) : Type 0 where
  pub content : IsContent tile.content
  pub some : 1 ≤ tile.width
  pub most : tile.width ≤ 256
  pub index : tile.index < 2 ^ 64

-- a number below 1000 in three digits
abbrev pub three_digits : ℕ → List ℕ
three_digits n = (48 + n / 100 % 10) ∷ (48 + n / 10 % 10) ∷ (48 + n % 10) ∷ []

-- a number below 1000 in decimal, without zeros in front
abbrev pub decimal : ℕ → List ℕ
decimal n = if nat_lt n 10 then (48 + n % 10) ∷ [] else if nat_lt n 100 then (48 + n / 10 % 10) ∷ (48 + n % 10) ∷ [] else three_digits n

-- a group before the last one: an x, three digits and a slash
abbrev pub group : ℕ → List ℕ
group n = 120 ∷ (48 + n / 100 % 10) ∷ (48 + n / 10 % 10) ∷ (48 + n % 10) ∷ 47 ∷ []

-- a number in groups of three digits: at most `groups` of them, and none for 0
unfoldable pub leading_groups : ℕ → ℕ → List ℕ
leading_groups zero n = []
leading_groups (suc groups) n = if nat_lt 0 n then leading_groups groups (n / 1000) ++ group (n % 1000) else []

-- the N of a name: an index below 2^64 (7 groups) in groups of three digits, the last one without an x, such as x001/x234/067
abbrev pub index_text : ℕ → List ℕ
index_text n = leading_groups 6 (n / 1000) ++ three_digits (n % 1000)

-- the L of a name: the level of hashes in decimal, or the word data
abbrev pub content_text : Content → List ℕ
content_text (Hashes level) = decimal level
content_text Entries = codes "data"

-- the end of the name of a partial tile, with its width in decimal, or nothing for a full tile
abbrev pub width_text : ℕ → List ℕ
width_text width = if nat_lt width 256 then codes ".p/" ++ decimal width else []

-- the name: tile/<L>/<N>[.p/<W>] or tile/data/<N>[.p/<W>] (47 is the slash)
abbrev pub name_text : Tile → List ℕ
name_text tile = codes "tile/" ++ content_text tile.content ++ 47 ∷ (index_text tile.index ++ width_text tile.width)
