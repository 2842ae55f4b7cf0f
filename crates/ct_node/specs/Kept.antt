-- The part of a log's tiles that is left if partial ones are deleted. H is any hash function on byte lists.
use Rattle.std.specs.Prelude.{◌≡◌, ◌⊎◌, ℕ, ◌<◌, ◌≤◌, List, length, take}
use Rattle.ct_data_tiles.specs.TileLeaf.{Tiled}
use Rattle.ct_step.specs.declared.line.StateLine.{StateLine}
use Rattle.ct_data_tiles.specs.TileNames.{IsTile, name_text}
use Rattle.ct_data_tiles.specs.declared.tile.Tile.{Tile}
use Rattle.ct_verify.specs.Hashed.{CollideAmong}
use Rattle.ct_node.specs.declared.state.State.{State}
use Rattle.ct_node.specs.Worlds.{Has, Made, Object, World, IsFirstState}
use Rattle.ct_node.specs.Sweeps.{SweptWorld, SweptHappening, swept_beginning, LeadToSwept}
use Rattle.ct_step.specs.Lines.{LineAttempt, IsHashedBySteps}
use Rattle.ct_step.specs.Steps.{IsLog}
use Rattle.ct_node.specs.Logs.{AreStepsMade, StandsOf, log_of_past}
use Rattle.ct_verify.specs.ConsistencyEvidence.{IsBeginning}

-- the name of the full tile of which this tile is a part
abbrev pub whole_name : Tile → List ℕ
whole_name t = name_text (record t { width = 256 })

-- each object's tile, as the name of its full tile and its width
abbrev pub tile_and_width : (Object → Tile) → Object → List ℕ × ℕ
tile_and_width of o = (whole_name (of o), (of o).width)

-- each object that was put has the name of its tile
abbrev pub AreNamed : (Object → Tile) → (Object → List ℕ × List ℕ) → World → Type 0
AreNamed of plan w = (o : Object) → Has o w.objects → IsTile (of o) × ((plan o).0 ≡ name_text (of o))

-- the content of the one object begins with that of the other
abbrev pub BeginsWithAll : List ℕ × List ℕ → List ℕ × List ℕ → Type 0
BeginsWithAll o p = take (length p.1) o.1 ≡ p.1

-- an object exists that begins with all of this object, under its own name, or under that of the full tile of its content and index
abbrev pub IsReadable : (Object → Tile) → (Object → List ℕ × List ℕ) → SweptWorld → Object → Type 0
IsReadable of plan w o =
    (p : Object) × Has p w.objects × (of p ≡ record (of o) { width = (of p).width }) × ((of o).width ≤ (of p).width)
    × (((of p).width ≡ (of o).width) ⊎ ((of p).width ≡ 256)) × BeginsWithAll (plan p) (plan o)

-- Everything that can be read:
-- - all objects that were ever put (`objects`), and so all objects of each state that a head covers (`covered`)
-- - for each head that was ever put, a head that is no earlier (`heads`)
pub record CanBeRead (count : State → ℕ) (of : Object → Tile) (plan : Object → List ℕ × List ℕ) (w : SweptWorld) : Type 0 where
  pub objects : (o : Object) → Has o w.world.objects → IsReadable of plan w o
  pub covered : (l m : State) → Has l w.world.heads → Has m w.world.past → m.moment ≤ l.moment → (i : ℕ) → i < count m
      → IsReadable of plan w (record { state = m; index = i })
  pub heads : (l : State) → Has l w.world.heads → (m : State) × Has m w.heads × (l.moment ≤ m.moment)

-- Whatever happens to the nodes' commands, let E be the log that the lock took, and let S contain the strings that nodes hashed when they
-- made steps and resumed them. Suppose that each object that was put has the name of its tile, that partial tiles are deleted only after
-- the full one was put, and heads only after a later one was put. Then everything that was put belongs to E, and it can be read. The
-- alternative is a collision of two strings that S contains, or that are hashed for the log's lines.
abbrev pub NodesKeepTiles : Type 0
NodesKeepTiles =
    (H : List ℕ → List ℕ) (S : List (List ℕ)) (line : State → StateLine) (step : Made → LineAttempt) (plan : Object → List ℕ × List ℕ) (of : Object → Tile)
    (known : List Tiled) (count : State → ℕ) (b : State) (hs : List SweptHappening) (w : SweptWorld) → IsFirstState count b → LeadToSwept count (tile_and_width of) (swept_beginning b) hs w
    → IsLog H known (line b) → AreStepsMade H S line step count plan w.world.made → AreNamed of plan w.world
    → (E : List Tiled) → E ≡ log_of_past step known w.world.past
    → (IsBeginning known E × StandsOf H line step b plan E w.world × CanBeRead count of plan w) ⊎ CollideAmong H (IsHashedBySteps H S E)
