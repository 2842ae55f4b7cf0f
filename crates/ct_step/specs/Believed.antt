-- When partial tiles that were kept elsewhere are believed to be the right edge of a head's tree. H is any hash function on byte lists with
-- digests of 32 bytes, and D a list of leaves.
use Rattle.std.specs.Prelude.{◌≡◌, ◌⊎◌, ℕ, zero, suc, ◌/◌, ◌%◌, ◌^◌, ◌<◌, List, [], ◌∷◌, ◌++◌, length, map, All}
use Rattle.ct_tree.specs.Tree.{hash_leaf, mth, mth_of_leaves}
use Rattle.ct_tree.specs.declared.head.Head.{Head}
use Rattle.ct_tiles.specs.Edge.{IsEdge}
use Rattle.ct_tiles.specs.Tiles.{edge, lone_root}
use Rattle.ct_verify.specs.Laws.{AreHashes}
use Rattle.ct_verify.specs.Hashed.{CollideAmong}
use Rattle.ct_step.specs.EdgeStrings.{IsHashedInEdge}
use Rattle.ct_step.specs.declared.believed.EdgeFault.{EdgeFault}
use Rattle.ct_step.specs.declared.believed.EdgeFault.TheVariants.{OtherWidths, OtherRoot, Memory}
use Rattle.ct_step.specs.declared.growth.State.{State}

-- the widths of the partial tiles of n leaves, on the first `levels` levels, level 0 first: a level has n / 256^level hashes
unfoldable pub tile_widths : ℕ → ℕ → List ℕ
tile_widths zero n = []
tile_widths (suc levels) n = tile_widths levels n ++ (n / 256 ^ levels % 256) ∷ []

-- The contribution of partial tiles to the level above the last of them, if `carried` comes from below the first. The hashes of a tile,
-- followed by those that are carried to it, have one root, which is carried to the next tile.
unfoldable pub carried_over : (List ℕ → List ℕ) → List (List (List ℕ)) → List (List ℕ) → List (List ℕ)
carried_over H [] carried = carried
carried_over H (tile ∷ tiles) carried = carried_over H tiles (lone_root H (tile ++ carried))

-- the root of partial tiles, level 0 first
abbrev pub edge_root : (List ℕ → List ℕ) → List (List (List ℕ)) → List ℕ
edge_root H tiles = mth H (carried_over H tiles [])

-- partial tiles are as wide as those of n leaves
abbrev pub HaveWidths : ℕ → List (List (List ℕ)) → Type 0
HaveWidths n tiles = map length tiles ≡ tile_widths 8 n

-- partial tiles, level 0 first, are believed for a head: they are as wide as those of its size (`widths`), their hashes have 32 bytes
-- (`hashes`), and they lead to its root (`root`)
pub record AreBelieved (H : List ℕ → List ℕ) (head : Head) (tiles : List (List (List ℕ))) : Type 0 where
  pub widths : HaveWidths head.tree_size tiles
  pub hashes : All AreHashes tiles
  pub root : edge_root H tiles ≡ head.root

-- the state is that of the head (`edge`, `moment`) with these partial tiles, which are believed (`believed`)
pub record BelievesState (H : List ℕ → List ℕ) (head : Head) (tiles : List (List (List ℕ))) (state : State) : Type 0 where
  pub believed : AreBelieved H head tiles
  pub edge : state.edge ≡ (head.tree_size, tiles)
  pub moment : state.timestamp ≡ head.timestamp

-- The reason why partial tiles are not believed for a head:
-- - `OtherWidths`: a tile does not have the width that the head's size requires, or there are not 8 tiles.
-- - `OtherRoot`: they have these widths, and they lead to another root.
-- - `Memory`: they have these widths.
abbrev pub StopsBelief : (List ℕ → List ℕ) → Head → List (List (List ℕ)) → EdgeFault → Type 0
StopsBelief H head tiles OtherWidths = HaveWidths head.tree_size tiles → ⊥
StopsBelief H head tiles OtherRoot = HaveWidths head.tree_size tiles × (edge_root H tiles ≡ head.root → ⊥)
StopsBelief H head tiles Memory = HaveWidths head.tree_size tiles

-- the head is that of the leaves D, of which there are fewer than 2^64
abbrev pub IsHeadOver : (List ℕ → List ℕ) → List (List ℕ) → Head → Type 0
IsHeadOver H D head = (head.tree_size ≡ length D) × (head.root ≡ mth_of_leaves H D) × (length D < 2 ^ 64)

-- the strings that are hashed when the root is computed from the right edge of the tree of the leaves D
abbrev pub IsHashedInEdgeOf : (List ℕ → List ℕ) → List (List ℕ) → List ℕ → Type 0
IsHashedInEdgeOf H D s = IsHashedInEdge H (edge H 256 8 (map (hash_leaf H) D)) s

-- Partial tiles that are believed for the head of a list are the right edge of that list. The alternative is a collision of two strings
-- that are hashed when the root is computed from these tiles, or from the list's right edge.
abbrev pub BelievedEdgesTell : Type 0
BelievedEdgesTell =
    (H : List ℕ → List ℕ) → ((x : List ℕ) → length (H x) ≡ 32) → (head : Head) (D : List (List ℕ)) (tiles : List (List (List ℕ)))
    → IsHeadOver H D head → AreBelieved H head tiles → IsEdge H (head.tree_size, tiles) (map (hash_leaf H) D)
    ⊎ CollideAmong H (λ s. IsHashedInEdge H tiles s ⊎ IsHashedInEdgeOf H D s)

-- the right edge of a list is believed for the list's head
abbrev pub EdgesAreBelieved : Type 0
EdgesAreBelieved =
    (H : List ℕ → List ℕ) → ((x : List ℕ) → length (H x) ≡ 32) → (head : Head) (D : List (List ℕ)) (tiles : List (List (List ℕ)))
    → IsHeadOver H D head → IsEdge H (head.tree_size, tiles) (map (hash_leaf H) D) → AreBelieved H head tiles
