-- The replies to requests, as values.
use Rattle.std.specs.Prelude.{◌≡◌, ◌+◌, ◌∷◌, [], ℕ, List, length, take, drop, map, filter_map, slice_get}
use Rattle.ct_step.specs.Leaves.{receipt_parts}
use Rattle.ct_step.specs.declared.line.StateLine.{StateLine}
use Rattle.ct_step.specs.declared.step.Step.{Step}
use Rattle.ct_data_tiles.specs.TileNames.{IsTile, name_text}
use Rattle.ct_data_tiles.specs.declared.tile.Tile.{Tile}
use Rattle.ct_step.specs.declared.places.Place.{Place}
use Rattle.ct_step.specs.declared.answer.StepRefusal.{StepRefusal}

-- the bytes are the name of a tile (C2SP tlog-tiles, "Merkle Tree"; static-ct-api, "Log Entries")
abbrev pub IsTileName : List ℕ → Type 0
IsTileName name = (tile : Tile) × IsTile tile × (name_text tile ≡ name)

-- The position of an object in the staged batch of its step: its name, the byte offset and the length of its content, and the content's
-- digest.
pub record Reference : Type 0 where
  pub name : List ℕ
  pub start : ℕ
  pub size : ℕ
  pub digest : List ℕ

-- the number of bytes of an object in a staged batch: two for the length of its name, the name, four for the length of its content, and the
-- content
abbrev pub object_size : List ℕ × List ℕ → ℕ
object_size o = 6 + length o.0 + length o.1

-- the number of bytes of a staged batch of objects
abbrev pub bundle_size : List (List ℕ × List ℕ) → ℕ
bundle_size [] = 0
bundle_size (o ∷ objects) = object_size o + bundle_size objects

-- the position of an object whose bytes begin at an offset
abbrev pub reference_at : (List ℕ → List ℕ) → ℕ → List ℕ × List ℕ → Reference
reference_at H place o = record { name = o.0; start = place + (6 + length o.0); size = length o.1; digest = H o.1 }

-- the positions of objects, one after the other, whose bytes begin at an offset
abbrev pub references_from : (List ℕ → List ℕ) → ℕ → List (List ℕ × List ℕ) → List Reference
references_from H place [] = []
references_from H place (o ∷ objects) = reference_at H place o ∷ references_from H (place + object_size o) objects

-- the positions of the objects of a staged batch
abbrev pub references_of : (List ℕ → List ℕ) → List (List ℕ × List ℕ) → List Reference
references_of H objects = references_from H 0 objects

-- the object at a position of a staged batch: the name, and the bytes of this number from the offset on
abbrev pub slice_at : List ℕ → Reference → List ℕ × List ℕ
slice_at bundle r = (r.name, take r.size (drop r.start bundle))

-- the same position as the code has it
abbrev pub place_parts : Place → Reference
place_parts p = record { name = p.name.now; start = p.start; size = p.length; digest = p.digest }

-- the receipts of a step at these indexes
abbrev pub receipts_at : Step → List ℕ → List (ℕ × ℕ × List ℕ)
receipts_at step places = filter_map (slice_get (map receipt_parts step.receipts.items)) places

-- The replies:
-- - `begins`: the state of a new log
-- - `names_edge`: the names of the objects that a step needs
-- - `steps`: a step, the indexes of the submissions among its entries, and the positions of its objects in its staged batch
-- - `rolls_out`: these positions for a step that was decided, with its line
-- - `stands`: the receipt of an entry (leaf index, timestamp, bytes to be signed)
-- - `refuses`: a refusal
pub data StepReply : Type 0 where
  begins : StateLine → StepReply
  names_edge : List (List ℕ) → StepReply
  steps : Step → List ℕ → List Reference → StepReply
  rolls_out : StateLine → List Reference → StepReply
  stands : ℕ × ℕ × List ℕ → StepReply
  refuses : StepRefusal → StepReply
