-- The relation of one step to the log. H is any hash function on byte lists. E is the list of the log's entries, as tile leaves: the data
-- tiles have their texts, and the tree has the leaves that they hold.
use Rattle.std.specs.Prelude.{◌≡◌, ◌⊎◌, ℕ, ◌+◌, ◌-◌, ◌/◌, ◌%◌, ◌<◌, ◌≤◌, ◌^◌, List, [], ◌∷◌, ◌++◌, length, map, All}
use Rattle.std.specs.Simd.{first_chunks}
use Rattle.ct_codec.specs.Parts.{joined}
use Rattle.ct_codec.specs.Signed.{tree_head_text}
use Rattle.ct_codec.specs.Submitted.{Submitted, entry_of}
use Rattle.ct_codec.specs.declared.refusal.Refusal.TheVariants as refused
use Rattle.ct_tree.specs.Tree.{mth_of_leaves}
use Rattle.ct_tree.specs.declared.head.Head.{Head}
use Rattle.ct_tiles.specs.Edge.{IsEdge}
use Rattle.ct_data_tiles.specs.Rows.{data_tile, data_tiles_from, IsPartialTile}
use Rattle.ct_data_tiles.specs.TileLeaf.{Tiled}
use Rattle.ct_step.specs.StateLines.{state_line_text}
use Rattle.ct_step.specs.declared.line.StateLine.{StateLine}
use Rattle.ct_step.specs.Believed.{AreBelieved, IsHashedInEdgeOf}
use Rattle.ct_step.specs.EdgeStrings.{IsHashedInEdge}
use Rattle.ct_step.specs.Growths.{IsState, MayGrow, StopsGrowth}
use Rattle.ct_step.specs.Leaves.{receipts_from, receipt_parts}
use Rattle.ct_step.specs.declared.believed.EdgeFault.{EdgeFault}
use Rattle.ct_step.specs.declared.believed.EdgeFault.TheVariants.{OtherWidths, OtherRoot, Memory}
use Rattle.ct_step.specs.declared.growth.State.{State}
use Rattle.ct_step.specs.declared.growth.GrowthFault.TheVariants.{ClockBack, Full, Refused}
use Rattle.ct_verify.specs.Laws.{AreHashes}
use Rattle.ct_verify.specs.Hashed.{CollideAmong}
use Rattle.ct_step.specs.Bundle.{IsBundleOf}
use Rattle.ct_step.specs.Entries.{tiled_leaves, texts_of, tree_leaves, hashes_of}
use Rattle.ct_step.specs.Objects.{level_objects, data_objects, FitsInBundle}
use Rattle.ct_step.specs.declared.step.Step.{Step}
use Rattle.ct_step.specs.declared.step.StepFault.{StepFault}
use Rattle.ct_step.specs.declared.step.StepFault.TheVariants.{Edge, Entries, Growth, TooLong}

-- the head that a line names
abbrev pub line_head : StateLine → Head
line_head line = record { tree_size = line.tree_size; timestamp = line.timestamp; root = line.root }

-- The line is that of a log with the entries E, of which there are fewer than 2^64 (`few`). It has their number (`size`), the root of their
-- leaves (`root`), and the digest of the partial data tile after their full ones (`entries`).
pub record IsLog (H : List ℕ → List ℕ) (E : List Tiled) (line : StateLine) : Type 0 where
  pub few : length E < 2 ^ 64
  pub size : line.tree_size ≡ length E
  pub root : line.root ≡ mth_of_leaves H (tree_leaves E)
  pub entries : line.data_tile ≡ H (data_tile (length E / 256) (texts_of E))

-- the entries of a batch that is added after the entries E at the timestamp `now`
abbrev pub new_entries : List Tiled → List (Submitted × List (List ℕ)) → ℕ → List Tiled
new_entries E batch now = tiled_leaves now (length E) batch

-- the tiles that are new or change if the entries N follow E, by level and index, followed by such data tiles
abbrev pub step_objects : (List ℕ → List ℕ) → List Tiled → List Tiled → List (List ℕ × List ℕ)
step_objects H E N = level_objects H 8 (hashes_of H E) (hashes_of H N) ++ data_objects (texts_of E) (texts_of N)

-- A step added a batch to the log with the entries E at the timestamp `now`, from a line:
-- - Each submission has its receipt, in order, from the index `length E` on (`receipts`).
-- - The bytes that are signed for the head are those of all entries and of this timestamp (`signed`).
-- - The staged batch is that of the objects (`bundle`).
-- - The next line is that of all entries (`log`) and has this timestamp (`moment`).
-- - It has the digests of the staged batch (`digest`) and of the text of the line before (`before`).
pub record IsTiledStep (H : List ℕ → List ℕ) (line : StateLine) (E : List Tiled) (batch : List (Submitted × List (List ℕ))) (now : ℕ) (s : Step) : Type 0 where
  pub receipts : map receipt_parts s.receipts.items ≡ receipts_from now (length E) (map (λ e. entry_of e.0) batch)
  pub signed : s.signed.items ≡ tree_head_text now (length (E ++ new_entries E batch now)) (mth_of_leaves H (tree_leaves (E ++ new_entries E batch now)))
  pub bundle : IsBundleOf (step_objects H E (new_entries E batch now)) s.bundle.items
  pub log : IsLog H (E ++ new_entries E batch now) s.line
  pub moment : s.line.timestamp ≡ now
  pub digest : s.line.bundle ≡ H s.bundle.items
  pub before : s.line.before ≡ H (state_line_text line)

-- A step from a line, for any received edge:
-- - Each submission has its receipt, in order, from the line's size on (`receipts`).
-- - The next line has one entry more for each submission (`size`), and the timestamp `now` (`moment`).
-- - It has the digests of the staged batch (`digest`), of the new partial data tile (`partial`) and of the text of the line before (`before`).
-- - The bytes that are signed for the head have this line's size, timestamp and root (`signed`).
pub record IsStepFrom (H : List ℕ → List ℕ) (line : StateLine) (batch : List (Submitted × List (List ℕ))) (now : ℕ) (s : Step) : Type 0 where
  pub receipts : map receipt_parts s.receipts.items ≡ receipts_from now line.tree_size (map (λ e. entry_of e.0) batch)
  pub size : s.line.tree_size ≡ line.tree_size + length batch
  pub moment : s.line.timestamp ≡ now
  pub digest : s.line.bundle ≡ H s.bundle.items
  pub partial : s.line.data_tile ≡ H s.partial.items
  pub before : s.line.before ≡ H (state_line_text line)
  pub signed : s.signed.items ≡ tree_head_text now s.line.tree_size s.line.root

-- the line after another one, with a head, a staged batch and a partial data tile
abbrev pub line_behind : (List ℕ → List ℕ) → StateLine → Head → List ℕ → List ℕ → StateLine
line_behind H line head bundle partial = record {
  tree_size = head.tree_size;
  timestamp = head.timestamp;
  root = head.root;
  bundle = H bundle;
  data_tile = H partial;
  before = H (state_line_text line);
}

-- the hashes of which the bytes of a tile consist, 32 bytes each
abbrev pub tile_hashes : List ℕ → List (List ℕ)
tile_hashes bytes = first_chunks 32 (length bytes / 32) bytes

-- these are the bytes of tiles of hashes, level 0 first
abbrev pub AreBytesOf : List (List (List ℕ)) → List (List ℕ) → Type 0
AreBytesOf tiles edge = map joined tiles ≡ edge

-- the bytes of each tile are whole hashes (`whole`), and these are those hashes (`hashes`)
pub record AreReadFrom (edge : List (List ℕ)) (tiles : List (List (List ℕ))) : Type 0 where
  pub whole : All (λ bytes. length bytes % 32 ≡ 0) edge
  pub hashes : tiles ≡ map tile_hashes edge

-- no partial tiles with these bytes are believed for the line's head
abbrev pub NotBelieved : (List ℕ → List ℕ) → StateLine → List (List ℕ) → Type 0
NotBelieved H line edge = (T : List (List (List ℕ))) → AreBytesOf T edge → AreBelieved H (line_head line) T → ⊥

-- The reason why bytes are not read as tiles. `Edge`: the bytes of a tile are not whole hashes. `Growth`: out of memory.
abbrev pub StopsTiles : List (List ℕ) → StepFault → Type 0
StopsTiles edge Edge = (T : List (List (List ℕ))) → AreBytesOf T edge → All AreHashes T → ⊥
StopsTiles edge (Growth fault) = fault ≡ Refused refused.Memory
StopsTiles edge _ = ⊥

-- The reason why a line has no state with these partial tiles. `Edge`: they are not believed. `Growth`: out of memory.
abbrev pub StopsState : (List ℕ → List ℕ) → StateLine → List (List ℕ) → StepFault → Type 0
StopsState H line edge Edge = NotBelieved H line edge
StopsState H line edge (Growth fault) = fault ≡ Refused refused.Memory
StopsState H line edge _ = ⊥

-- the fault of a step that corresponds to a fault of an edge
abbrev pub of_edge : EdgeFault → StepFault
of_edge OtherWidths = Edge
of_edge OtherRoot = Edge
of_edge Memory = Growth (Refused refused.Memory)

-- The line names the received bytes: they are those of partial tiles that are believed for its head (`tiles`), and the digest of the
-- partial data tile is the line's (`digest`).
pub record IsNamed (H : List ℕ → List ℕ) (line : StateLine) (edge : List (List ℕ)) (entries : List ℕ) : Type 0 where
  pub tiles : (T : List (List (List ℕ))) × AreBytesOf T edge × AreBelieved H (line_head line) T
  pub digest : H entries ≡ line.data_tile

-- The received bytes are the edge of the log with the entries E, whose number is `size`: they are those of its partial tiles (`tiles`) and
-- of its partial data tile (`partial`).
pub record IsEdgeOf (H : List ℕ → List ℕ) (E : List Tiled) (size : ℕ) (edge : List (List ℕ)) (entries : List ℕ) : Type 0 where
  pub tiles : (T : List (List (List ℕ))) × AreBytesOf T edge × IsEdge H (size, T) (hashes_of H E)
  pub partial : IsPartialTile (texts_of E) size entries

-- the strings that are hashed when the received bytes are compared with a line: those over the partial tiles, and the partial data tile
abbrev pub IsHashedOfHanded : (List ℕ → List ℕ) → List (List ℕ) → List ℕ → List ℕ → Type 0
IsHashedOfHanded H edge entries s = IsHashedInEdge H (map tile_hashes edge) s ⊎ (s ≡ entries)

-- the strings that are hashed for the line of the log with the entries E: those over its partial tiles, and its partial data tile
abbrev pub IsHashedOfLog : (List ℕ → List ℕ) → List Tiled → List ℕ → Type 0
IsHashedOfLog H E s = IsHashedInEdgeOf H (tree_leaves E) s ⊎ (s ≡ data_tile (length E / 256) (texts_of E))

-- If a line names the received bytes, they are the edge of each log that has the line. The alternative is a collision of two strings that
-- are hashed for the received bytes, or for the log's line.
abbrev pub NamedEdgesTell : Type 0
NamedEdgesTell =
    (H : List ℕ → List ℕ) → ((x : List ℕ) → length (H x) ≡ 32) → (line : StateLine) (E : List Tiled) (edge : List (List ℕ)) (entries : List ℕ)
    → IsNamed H line edge entries → IsLog H E line
    → IsEdgeOf H E line.tree_size edge entries ⊎ CollideAmong H (λ s. IsHashedOfHanded H edge entries s ⊎ IsHashedOfLog H E s)

-- A line of a log names the log's edge.
abbrev pub EdgesAreNamed : Type 0
EdgesAreNamed =
    (H : List ℕ → List ℕ) → ((x : List ℕ) → length (H x) ≡ 32) → (line : StateLine) (E : List Tiled) (edge : List (List ℕ)) (entries : List ℕ)
    → IsEdgeOf H E line.tree_size edge entries → IsLog H E line → IsNamed H line edge entries

-- the data tiles from the one on that was partial, full ones and the one after them, if the texts N follow L
abbrev pub last_tiles : List (List ℕ) → List (List ℕ) → List (List ℕ)
last_tiles L N =
    data_tiles_from (length L / 256) (length (L ++ N) / 256 - length L / 256) (L ++ N) ++ data_tile (length (L ++ N) / 256) (L ++ N) ∷ []

-- if a batch follows the entries E, one of the data tiles has 2^32 bytes or more
abbrev pub GetsLong : List Tiled → List (Submitted × List (List ℕ)) → ℕ → Type 0
GetsLong E batch now = All FitsInBundle (last_tiles (texts_of E) (texts_of (new_entries E batch now))) → ⊥

-- A batch may be added at the timestamp `now`: the line names the received bytes (`named`), the timestamp is later than the line's
-- (`later`; RFC 6962, section 3.5), and a leaf's index has 40 bits (`fits`).
pub record MayStep (H : List ℕ → List ℕ) (line : StateLine) (edge : List (List ℕ)) (entries : List ℕ) (batch : List (Submitted × List (List ℕ))) (now : ℕ) : Type 0 where
  pub named : IsNamed H line edge entries
  pub later : line.timestamp < now
  pub fits : line.tree_size + length batch ≤ 2 ^ 40

-- The reason why there is no step:
-- - `Edge`: the partial tiles are not believed.
-- - `Entries`: they are believed, and the partial data tile is not the line's.
-- - `ClockBack`: both are the line's, and the timestamp is not later than the line's.
-- - `Full`: it is later, and the log would have more than 2^40 leaves.
-- - `TooLong`: the log would not be full, and for every log that has this edge, a data tile would have 2^32 bytes or more.
-- - `Refused`: memory could not be allocated.
abbrev pub StopsStep : (List ℕ → List ℕ) → StateLine → List (List ℕ) → List ℕ → List (Submitted × List (List ℕ)) → ℕ → StepFault → Type 0
StopsStep H line edge entries batch now Edge = NotBelieved H line edge
StopsStep H line edge entries batch now Entries =
    ((T : List (List (List ℕ))) × AreBytesOf T edge × AreBelieved H (line_head line) T) × (H entries ≡ line.data_tile → ⊥)
StopsStep H line edge entries batch now (Growth ClockBack) = IsNamed H line edge entries × (now ≤ line.timestamp)
StopsStep H line edge entries batch now (Growth Full) =
    IsNamed H line edge entries × (line.timestamp < now) × (2 ^ 40 < line.tree_size + length batch)
StopsStep H line edge entries batch now (Growth (Refused refusal)) = refusal ≡ refused.Memory
StopsStep H line edge entries batch now TooLong =
    MayStep H line edge entries batch now × ((E : List Tiled) → IsEdgeOf H E line.tree_size edge entries → GetsLong E batch now)

-- the reason why there is no step from a state, if the received bytes are believed
abbrev pub StopsMade : (List ℕ → List ℕ) → StateLine → State → List ℕ → List (Submitted × List (List ℕ)) → ℕ → StepFault → Type 0
StopsMade H line state entries batch now (Growth fault) = StopsGrowth state (length batch) now fault
StopsMade H line state entries batch now TooLong =
    MayGrow state (length batch) now
    × ((E : List Tiled) → IsState H state (tree_leaves E) → IsPartialTile (texts_of E) line.tree_size entries → GetsLong E batch now)
StopsMade H line state entries batch now _ = ⊥
