-- The hashes of a level in the RFC's terms.
use Rattle.std.specs.Prelude.{◌≡◌, ◌*◌, ◌/◌, ◌^◌, ◌<◌, ℕ, List, [], length, take, drop, get_or}
use Rattle.ct_tree.specs.Tree.{mth}
use Rattle.ct_tiles.specs.Tiles.{hashes}

-- a level has one hash for each 256^level leaves: as many as there are complete runs of this length
abbrev pub LevelHasLength : Type 0
LevelHasLength = (H : List ℕ → List ℕ) (level : ℕ) (D : List (List ℕ)) → length (hashes H 256 level D) ≡ length D / 256 ^ level

-- the hash at index i of a level is MTH(D[256^level * i : 256^level * (i + 1)])
abbrev pub HashIsMth : Type 0
HashIsMth =
    (H : List ℕ → List ℕ) (level i : ℕ) (D : List (List ℕ)) → i < length (hashes H 256 level D)
    → get_or (hashes H 256 level D) i [] ≡ mth H (take (256 ^ level) (drop (256 ^ level * i) D))
