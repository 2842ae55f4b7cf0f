-- Theorems about the definitions in Tiles.
use Rattle.std.specs.Prelude.{◌≡◌, ◌≤◌, ◌+◌, ◌*◌, ℕ, List, ◌++◌, length, take, drop}
use Rattle.ct_tiles.specs.Tiles.{hashes, tile, row}

-- the hashes of a tile (`width` of them, from 256 * index on) do not change when the log grows
abbrev pub TilesStay : Type 0
TilesStay =
    (H : List ℕ → List ℕ) (level index width : ℕ) (D B : List (List ℕ)) → 256 * index + width ≤ length (hashes H 256 level D)
    → tile H 256 level index width (D ++ B) ≡ tile H 256 level index width D

-- The tiles of a row: if leaves B follow D, the i-th 256 hashes of a level's row are the tile at the index `first` + i. The hashes that are
-- left at its end are the partial tile there.
abbrev pub RowIsTiles : Type 0
RowIsTiles =
    (H : List ℕ → List ℕ) (level i : ℕ) (D B : List (List ℕ))
    → take 256 (drop (256 * i) (row H 256 level D B).1) ≡ tile H 256 level ((row H 256 level D B).0 + i) 256 (D ++ B)

-- a row begins no later than the first new hash, so it has everything that changes
abbrev pub RowBeginsBefore : Type 0
RowBeginsBefore =
    (H : List ℕ → List ℕ) (level : ℕ) (D B : List (List ℕ)) → 256 * (row H 256 level D B).0 ≤ length (hashes H 256 level D)
