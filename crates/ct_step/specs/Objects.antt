-- The objects that a step writes: the tiles and data tiles that are new or change, under their names. H is any hash function on byte lists,
-- D a list of leaf hashes, and L a list of the texts of tile leaves.
use Rattle.std.specs.Prelude.{ℕ, zero, suc, ◌+◌, ◌-◌, ◌*◌, ◌/◌, ◌%◌, nat_lt, if◌then◌else◌, List, [], ◌∷◌, ◌++◌, length, take, drop, map, ◌<◌, ◌^◌}
use Rattle.ct_codec.specs.Parts.{joined}
use Rattle.ct_tiles.specs.Tiles.{hashes, tile}
use Rattle.ct_tiles.specs.declared.row.Row.{Row}
use Rattle.ct_data_tiles.specs.TileNames.{name_text}
use Rattle.ct_data_tiles.specs.declared.tile.Content.{Content}
use Rattle.ct_data_tiles.specs.declared.tile.Content.TheVariants.{Hashes, Entries}

-- a tile under its name: its parts are hashes of a level or texts of entries, and their number is its width
abbrev pub named : Content → ℕ → List (List ℕ) → List ℕ × List ℕ
named content index parts = (name_text (record { content = content; index = index; width = length parts }), joined parts)

-- the tile at an index of a level
abbrev pub hash_object : (List ℕ → List ℕ) → List (List ℕ) → ℕ → ℕ → List ℕ × List ℕ
hash_object H D level index = named (Hashes level) index (tile H 256 level index 256 D)

-- the data tile at an index
abbrev pub entry_object : List (List ℕ) → ℕ → List ℕ × List ℕ
entry_object L index = named Entries index (take 256 (drop (256 * index) L))

-- the objects at `count` indexes from one on, in order
unfoldable pub each_from : (ℕ → List ℕ × List ℕ) → ℕ → ℕ → List (List ℕ × List ℕ)
each_from object first zero = []
each_from object first (suc count) = each_from object first count ++ object (first + count) ∷ []

-- the tiles that are new or change if m parts, 256 in a tile, become n: none if no part is new
abbrev pub changed : (ℕ → List ℕ × List ℕ) → ℕ → ℕ → List (List ℕ × List ℕ)
changed object m n = if nat_lt m n then each_from object (m / 256) ((n + 255) / 256 - m / 256) else []

-- the tiles of the first `levels` levels that are new or change if leaves B follow D, by level from 0 on
unfoldable pub level_objects : (List ℕ → List ℕ) → ℕ → List (List ℕ) → List (List ℕ) → List (List ℕ × List ℕ)
level_objects H zero D B = []
level_objects H (suc levels) D B =
    level_objects H levels D B ++ changed (hash_object H (D ++ B) levels) (length (hashes H 256 levels D)) (length (hashes H 256 levels (D ++ B)))

-- the data tiles that are new or change if texts N follow L
abbrev pub data_objects : List (List ℕ) → List (List ℕ) → List (List ℕ × List ℕ)
data_objects L N = changed (entry_object (L ++ N)) (length L) (length (L ++ N))

-- the tiles of a level that has the hashes E from the tile at the index `first` on: the one at the index `place` among them
abbrev pub cut_object : ℕ → ℕ → List (List ℕ) → ℕ → List ℕ × List ℕ
cut_object level first E place = named (Hashes level) (first + place) (take 256 (drop (256 * place) E))

-- the tiles of a level that had m hashes, if it has more: E are its hashes from the tile on that was partial
abbrev pub cut_level : ℕ → ℕ → List (List ℕ) → List (List ℕ × List ℕ)
cut_level level m E = if nat_lt (m % 256) (length E) then each_from (cut_object level (m / 256) E) 0 ((length E + 255) / 256) else []

-- rows, as pairs of the index of the first tile and the hashes
abbrev pub row_tiles : List Row → List (ℕ × List (List ℕ))
row_tiles rows = map (λ r. (r.first, r.hashes.items)) rows

-- bytes that can be an object's content: fewer than 2^32
abbrev pub FitsInBundle : List ℕ → Type 0
FitsInBundle content = length content < 2 ^ 32
