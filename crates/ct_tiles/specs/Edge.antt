-- The meaning of the right edge of a log's tiles.
use Rattle.std.specs.Prelude.{◌≡◌, ℕ, List, length}
use Rattle.ct_tiles.specs.Tiles.{edge}

-- an edge, seen as a number and a list of partial tiles, is that of the log whose leaf hashes are D: the number is that of the leaves
-- (`size`), and the partial tiles are those of the first 8 levels, from level 0 on (`tiles`)
pub record IsEdge (H : List ℕ → List ℕ) (seen : ℕ × List (List (List ℕ))) (D : List (List ℕ)) : Type 0 where
  pub size : seen.0 ≡ length D
  pub tiles : seen.1 ≡ edge H 256 8 D
