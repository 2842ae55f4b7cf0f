-- Tiles that the caller passes in the order of a list, each as its bytes (C2SP tlog-tiles, "Merkle Tree").
use Rattle.std.specs.Prelude.{◌≡◌, ℕ, ◌+◌, ◌-◌, ◌*◌, ◌/◌, ◌^◌, ◌<◌, nat_lt, nat_le, nat_eq, ◌&&◌, Bool, if◌then◌else◌, List, [], ◌∷◌, length, map, take, drop, replicate, Option, Some, None, Vec, ⊤}
use Rattle.ct_tree.specs.Tree.{mth}
use Rattle.ct_tiles.specs.declared.needed.NeededTile.{NeededTile}
use Rattle.ct_tiles.specs.declared.handed.HandedFault.{HandedFault}
use Rattle.ct_tiles.specs.declared.handed.HandedFault.TheVariants.{Missing, BadLength, Memory}

-- the bytes of the passed tiles, in order
abbrev pub contents_in : {A : Type 0} → List (Vec ℕ A) → List (List ℕ)
contents_in contents = map (λ c. c.items) contents

-- the fault of the first tile of the list without bytes of the right length: there are none for it (`Missing`), or they are not 32 for each
-- of its hashes (`BadLength`)
unfoldable pub handed_fault : List NeededTile → List (List ℕ) → Option HandedFault
handed_fault [] contents = None
handed_fault (tile ∷ tiles) [] = Some (Missing tile)
handed_fault (tile ∷ tiles) (content ∷ contents) =
    if nat_eq (length content) (32 * tile.width) then handed_fault tiles contents else Some (BadLength tile)

-- The reason why there is no result: the fault of the first tile without bytes of the right length, or memory could not be allocated
-- (`Memory`). No clause can say when the latter happens.
abbrev pub IsHandedFault : HandedFault → List NeededTile → List (List ℕ) → Type 0
IsHandedFault Memory tiles contents = ⊤
IsHandedFault fault tiles contents = handed_fault tiles contents ≡ Some fault

-- the bytes of a tile have the hash at an index of a level
abbrev pub has_hash : NeededTile → List ℕ → ℕ → ℕ → Bool
has_hash tile content level index =
    nat_eq tile.level level && (nat_le tile.index (index / 256) && nat_lt (index - 256 * tile.index) (length content / 32))

-- the hash at an index of a level: that of the first tile that has it, or 32 zeros if none has it
unfoldable pub handed_hash : List NeededTile → List (List ℕ) → ℕ → ℕ → List ℕ
handed_hash [] contents level index = replicate 32 0
handed_hash (tile ∷ tiles) [] level index = replicate 32 0
handed_hash (tile ∷ tiles) (content ∷ contents) level index =
    if has_hash tile content level index then take 32 (drop (32 * (index - 256 * tile.index)) content) else handed_hash tiles contents level index

-- the bytes are those of the tile in the tree of the leaves with the hashes D: its hashes, one after the other, each of which is MTH of
-- 256^level leaves (RFC 6962, section 2.1)
pub record IsTileOf (H : List ℕ → List ℕ) (D : List (List ℕ)) (tile : NeededTile) (content : List ℕ) : Type 0 where
  pub size : length content ≡ 32 * tile.width
  pub hash : (k : ℕ) → k < tile.width
      → take 32 (drop (32 * k) content) ≡ mth H (take (256 ^ tile.level) (drop (256 ^ tile.level * (256 * tile.index + k)) D))

-- the bytes of each tile of the list are its own
abbrev pub AreTilesOf : (List ℕ → List ℕ) → List (List ℕ) → List NeededTile → List (List ℕ) → Type 0
AreTilesOf H D [] contents = ⊤
AreTilesOf H D (tile ∷ tiles) [] = ⊥
AreTilesOf H D (tile ∷ tiles) (content ∷ contents) = IsTileOf H D tile content × AreTilesOf H D tiles contents
