-- The names of the objects at a log's right edge.
use Rattle.std.specs.Prelude.{ℕ, zero, suc, ◌/◌, ◌%◌, ◌^◌, nat_lt, if◌then◌else◌, List, [], ◌∷◌, ◌++◌}
use Rattle.ct_data_tiles.specs.TileNames.{name_text}
use Rattle.ct_data_tiles.specs.declared.tile.Content.{Content}
use Rattle.ct_data_tiles.specs.declared.tile.Content.TheVariants.{Hashes, Entries}

-- the name of the partial tile after the full ones if n hashes or entries leave one, and otherwise no name
abbrev pub partial_name : Content → ℕ → List (List ℕ)
partial_name content n = if nat_lt 0 (n % 256) then name_text (record { content = content; index = n / 256; width = n % 256 }) ∷ [] else []

-- the names of the partial tiles of the first `levels` levels of a log of n leaves, from level 0 on: a level has n / 256^level hashes
unfoldable pub level_names : ℕ → ℕ → List (List ℕ)
level_names zero n = []
level_names (suc levels) n = level_names levels n ++ partial_name (Hashes levels) (n / 256 ^ levels)

-- the names of the partial tiles of a log of n leaves, followed by that of its partial data tile
abbrev pub needed_names : ℕ → List (List ℕ)
needed_names n = level_names 8 n ++ partial_name Entries n
