-- The log that any number of nodes write: everything in the stores belongs to one list of entries. H is any hash function on byte lists.
use Rattle.std.specs.Prelude.{◌≡◌, ◌⊎◌, ℕ, ◌<◌, List, [], ◌∷◌, ◌++◌, Contains, map, Ok, Vec, length, take}
use Rattle.ct_data_tiles.specs.TileLeaf.{Tiled}
use Rattle.ct_step.specs.declared.line.StateLine.{StateLine}
use Rattle.ct_verify.specs.Hashed.{CollideAmong}
use Rattle.ct_node.specs.declared.state.State.{State}
use Rattle.ct_node.specs.Worlds.{Has, Made, Object, World, Happening, beginning, IsFirstState, LeadTo}
use Rattle.std.specs.Global.{Global}
use Rattle.ct_step.specs.Resumed.{AnswersResume, object_parts}
use Rattle.ct_step.specs.declared.bundle.Object.{Object as Found}
use Rattle.ct_step.specs.Lines.{LineAttempt, IsHashedBySteps, IsMadeOfLine, IsStepOf}
use Rattle.ct_step.specs.Steps.{new_entries, IsLog}
use Rattle.ct_node.specs.Names.{IsTileOfEntries}
use Rattle.ct_verify.specs.ConsistencyEvidence.{IsBeginning}

-- The objects that are put of a state are objects that `resume` returned for its line and some bytes, wherever these came from. S contains
-- these bytes, since they were hashed. `line` returns the line of a state, `count` the number of its objects that are put, and `plan` each
-- object by its index, as a name and a content.
abbrev pub IsResumed : (List ℕ → List ℕ) → List (List ℕ) → (State → StateLine) → (State → ℕ) → (Object → List ℕ × List ℕ) → State → Type 0
IsResumed H S line count plan l =
    (bytes : List ℕ) × (found : Vec Found Global) × Contains S bytes × AnswersResume H (line l) bytes (Ok found)
    × ((i : ℕ) → i < count l → Has (plan (record { state = l; index = i })) (map object_parts found.items))

-- The attempt is this step, from the line of the first state to that of the second, and was made by `take_step`. S contains the strings
-- that its maker hashed.
abbrev pub IsAttempt : (List ℕ → List ℕ) → List (List ℕ) → (State → StateLine) → Made → LineAttempt → Type 0
IsAttempt H S line m a = (a.seen ≡ line m.seen) × (a.step.line ≡ line m.new) × IsMadeOfLine H S a

-- each step was made by `take_step`, and the objects that are put of its state were returned by `resume`
abbrev pub AreStepsMade : (List ℕ → List ℕ) → List (List ℕ) → (State → StateLine) → (Made → LineAttempt) → (State → ℕ) → (Object → List ℕ × List ℕ) → List Made → Type 0
AreStepsMade H S line step count plan made = (m : Made) → Has m made → IsAttempt H S line m (step m) × IsResumed H S line count plan m.new

-- the log that the lock took: the entries that were known, followed by those of each step by which the lock came to its next state. The
-- newest state is first in the list of states.
unfoldable pub log_of_past : (Made → LineAttempt) → List Tiled → List State → List Tiled
log_of_past step known [] = known
log_of_past step known (l ∷ []) = known
log_of_past step known (l ∷ k ∷ rest) =
    let E = log_of_past step known (k ∷ rest) in
    let a = step (record { seen = k; new = l }) in
    E ++ new_entries E a.batch a.now

-- The state l belongs to the entries E. It is the first state, or that of a step that was made, of which everything belongs to E. So the
-- receipt at an index is that of the submission at this index of the step's batch.
abbrev pub IsOf : (List ℕ → List ℕ) → (State → StateLine) → (Made → LineAttempt) → List Made → State → List Tiled → State → Type 0
IsOf H line step made b E l =
    (l ≡ b) ⊎ ((m : Made) × Has m made × (m.new ≡ l) × ((step m).step.line ≡ line l) × IsStepOf H E (step m))

-- Everything in the stores belongs to the entries E:
-- - each state that the lock took (`past`)
-- - each state whose waiting requests were answered, and such a state has a head (`answered`)
-- - each object that was ever put, which is a tile of E (`tiles`)
--
-- Each name has only one content (`names`).
pub record StandsOf (H : List ℕ → List ℕ) (line : State → StateLine) (step : Made → LineAttempt) (b : State) (plan : Object → List ℕ × List ℕ) (E : List Tiled) (w : World) : Type 0 where
  pub past : (l : State) → Has l w.past → IsOf H line step w.made b E l
  pub answered : (l : State) → Has l w.answered → Has l w.heads × IsOf H line step w.made b E l
  pub tiles : (o : Object) → Has o w.objects → IsTileOfEntries H E (plan o)
  pub names : (o p : Object) → Has o w.objects → Has p w.objects → (plan o).0 ≡ (plan p).0 → (plan o).1 ≡ (plan p).1

-- Whatever happens, let E be the log that the lock took, and let S contain the strings that nodes hashed when they made steps and resumed
-- them. E begins with the entries that were known, and everything in the stores belongs to E. The alternative is a collision of two strings
-- that S contains, or that are hashed for the log's lines.
abbrev pub NodesWriteOneLog : Type 0
NodesWriteOneLog =
    (H : List ℕ → List ℕ) (S : List (List ℕ)) (line : State → StateLine) (step : Made → LineAttempt) (plan : Object → List ℕ × List ℕ) (known : List Tiled)
    (count : State → ℕ) (b : State) (hs : List Happening) (w : World) → IsFirstState count b → LeadTo count (beginning b) hs w → IsLog H known (line b)
    → AreStepsMade H S line step count plan w.made → (E : List Tiled) → E ≡ log_of_past step known w.past
    → (IsBeginning known E × StandsOf H line step b plan E w) ⊎ CollideAmong H (IsHashedBySteps H S E)
