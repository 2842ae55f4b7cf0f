-- The data tiles of a log whose entries have the texts L, in order (C2SP static-ct-api, "Log Entries").
use Rattle.std.specs.Prelude.{◌≡◌, ℕ, zero, suc, ◌+◌, ◌-◌, ◌*◌, ◌/◌, List, [], ◌∷◌, ◌++◌, length, map, take, drop}
use Rattle.ct_codec.specs.Parts.{joined}
use Rattle.ct_data_tiles.specs.declared.row.DataRow.{DataRow}

-- the bytes of the data tile at an index: the texts of its 256 entries, or of as many as there are, one after the other
abbrev pub data_tile : ℕ → List (List ℕ) → List ℕ
data_tile index L = joined (take 256 (drop (256 * index) L))

-- the bytes of `count` data tiles from an index on, in order
unfoldable pub data_tiles_from : ℕ → ℕ → List (List ℕ) → List (List ℕ)
data_tiles_from first zero L = []
data_tiles_from first (suc count) L = data_tiles_from first count L ++ data_tile (first + count) L ∷ []

-- a log has `size` entries, and its partial data tile, after its full ones, has these bytes
abbrev pub IsPartialTile : List (List ℕ) → ℕ → List ℕ → Type 0
IsPartialTile L size bytes = (size ≡ length L) × (bytes ≡ data_tile (length L / 256) L)

-- If the texts N follow L, the row has the data tiles of both from the one on that was partial: its index (`first`), the tiles that are
-- full now (`full`), and the one after them (`partial`).
pub record IsDataRow (L N : List (List ℕ)) (r : DataRow) : Type 0 where
  pub first : r.first ≡ length L / 256
  pub full : map (λ t. t.items) r.full.items ≡ data_tiles_from (length L / 256) (length (L ++ N) / 256 - length L / 256) (L ++ N)
  pub partial : r.partial.items ≡ data_tile (length (L ++ N) / 256) (L ++ N)
