-- The replies of `resume` for the line that a lock holds. H is any hash function on byte lists.
use Rattle.std.specs.Prelude.{◌≡◌, ◌≢◌, ◌⊎◌, ℕ, List, [], length, map, Some}
use Rattle.ct_step.specs.Bundle.{IsBundleOf}
use Rattle.ct_step.specs.StateLines.{IsStateLine, state_line_text}
use Rattle.ct_step.specs.declared.line.StateLine.{StateLine}
use Rattle.ct_step.specs.Steps.{new_entries, step_objects, IsHashedOfHanded, IsHashedOfLog, IsLog, IsTiledStep}
use Rattle.ct_step.specs.declared.step.Step.{Step}
use Rattle.ct_data_tiles.specs.TileLeaf.{Tiled}
use Rattle.ct_verify.specs.Hashed.{CollideAmong}
use Rattle.ct_verify.specs.Evidence.{Collides}
use Rattle.ct_step.specs.StepAnswers.{edge_of, IsReplyToBy}
use Rattle.ct_step.specs.StepAsks.{for_step, for_resume}
use Rattle.ct_step.specs.StepRepeats.{BatchEntry, first_of_each}
use Rattle.ct_step.specs.StepWords.{Reference, references_of, slice_at, steps, rolls_out}

-- A staged batch has its objects at the offsets of their references, name by name and byte by byte, and each digest is that of the object's
-- content.
abbrev pub ReferencesAreSlices : Type 0
ReferencesAreSlices =
    (H : List ℕ → List ℕ) (objects : List (List ℕ × List ℕ)) (bytes : List ℕ) → IsBundleOf objects bytes
    → (map (slice_at bytes) (references_of H objects) ≡ objects) × (map (λ r. r.digest) (references_of H objects) ≡ map (λ o. H o.1) objects)

-- the strings that are hashed for the received contents of the tiles of a log of `size` entries
abbrev pub IsHashedOfContents : (List ℕ → List ℕ) → ℕ → List (List ℕ) → List ℕ → Type 0
IsHashedOfContents H size contents s =
    (edge : List (List ℕ) × List ℕ) × (edge_of size contents ≡ Some edge) × IsHashedOfHanded H edge.0 edge.1 s

-- The objects of a step in a reply are the tiles and data tiles that the step changes, in every log that has the state's line. The
-- alternative is a collision of two strings that are hashed for the received contents, or for the log's line.
abbrev pub RepliedObjectsChange : Type 0
RepliedObjectsChange =
    (H : List ℕ → List ℕ) → ((x : List ℕ) → length (H x) ≡ 32) → (line : StateLine) (batch : List BatchEntry) (contents : List (List ℕ)) (now most : ℕ)
    (step : Step) (places : List ℕ) (objects : List Reference) (E : List Tiled)
    → IsStateLine line → IsReplyToBy H (for_step batch contents now (state_line_text line) most) (steps step places objects) → IsLog H E line
    → (objects ≡ references_of H (step_objects H E (new_entries E (first_of_each [] batch) now)))
    ⊎ CollideAmong H (λ s. IsHashedOfContents H line.tree_size contents s ⊎ IsHashedOfLog H E s)

-- Take a reply with objects for a step's line and some bytes. If the bytes are the step's own staged batch, the objects are the tiles and
-- data tiles that the step changes, which its maker would have put. Other bytes collide with that staged batch.
abbrev pub ResumedLinesAreRolledOut : Type 0
ResumedLinesAreRolledOut =
    (H : List ℕ → List ℕ) (seen : StateLine) (E : List Tiled) (batch : List BatchEntry) (now : ℕ) (s : Step) (bytes : List ℕ) (line : StateLine)
    (objects : List Reference) → IsTiledStep H seen E batch now s → IsStateLine s.line
    → IsReplyToBy H (for_resume bytes (state_line_text s.line)) (rolls_out line objects)
    → (bytes ≡ s.bundle.items → objects ≡ references_of H (step_objects H E (new_entries E batch now))) × (bytes ≢ s.bundle.items → Collides H bytes s.bundle.items)
