-- A published head has all objects of its step. H is any hash function on byte lists.
use Rattle.std.specs.Prelude.{◌≡◌, ◌⊎◌, ℕ, ◌<◌, List, Contains, map, Ok, Vec}
use Rattle.std.specs.Global.{Global}
use Rattle.ct_data_tiles.specs.TileLeaf.{Tiled}
use Rattle.ct_step.specs.Resumed.{AnswersResume, object_parts}
use Rattle.ct_step.specs.declared.bundle.Object.{Object as Found}
use Rattle.ct_step.specs.declared.line.StateLine.{StateLine}
use Rattle.ct_node.specs.declared.state.State.{State}
use Rattle.ct_node.specs.Worlds.{Has, Made, Object, World, Happening, beginning, IsFirstState, LeadTo}
use Rattle.ct_node.specs.Logs.{AreStepsMade, log_of_past}
use Rattle.ct_node.specs.Names.{objects_of}
use Rattle.ct_verify.specs.Hashed.{CollideAmong}
use Rattle.ct_step.specs.Lines.{LineAttempt, IsHashedBySteps, IsStepOf}
use Rattle.ct_step.specs.Steps.{IsLog}

-- Each object that `resume` returned for the line of a state and some bytes is put under one of the state's indexes: the number of objects that a node learns of its
-- staged batch is the number of objects in it. S contains the bytes, since they were hashed.
abbrev pub AreAllPut : (List ℕ → List ℕ) → List (List ℕ) → (State → StateLine) → (State → ℕ) → (Object → List ℕ × List ℕ) → State → Type 0
AreAllPut H S line count plan l =
    (bytes : List ℕ) × (found : Vec Found Global) × Contains S bytes × AnswersResume H (line l) bytes (Ok found)
    × ((o : List ℕ × List ℕ) → Has o (map object_parts found.items) → (i : ℕ) × (i < count l) × (plan (record { state = l; index = i }) ≡ o))

-- the state is the first one, or that of a step of the entries E, and each object of this step is in the store
abbrev pub HasAllObjects : (List ℕ → List ℕ) → (Made → LineAttempt) → State → (Object → List ℕ × List ℕ) → List Tiled → World → State → Type 0
HasAllObjects H step b plan E w l =
    (l ≡ b)
    ⊎ ((m : Made) × Has m w.made × (m.new ≡ l) × IsStepOf H E (step m)
    × ((o : List ℕ × List ℕ) → Has o (objects_of H E (step m)) → (p : Object) × Has p w.objects × (p.state ≡ l) × (plan p ≡ o)))

-- Whatever happens, let E be the log that the lock took, and let S contain the strings that nodes hashed when they made steps and resumed them. If all objects of each
-- step are put, then each object of the step of a published head is in the store. The alternative is a collision of two strings that S contains, or that are hashed for
-- the log's lines.
abbrev pub HeadsHaveAllObjects : Type 0
HeadsHaveAllObjects =
    (H : List ℕ → List ℕ) (S : List (List ℕ)) (line : State → StateLine) (step : Made → LineAttempt) (plan : Object → List ℕ × List ℕ) (known : List Tiled)
    (count : State → ℕ) (b : State) (hs : List Happening) (w : World) → IsFirstState count b → LeadTo count (beginning b) hs w → IsLog H known (line b)
    → AreStepsMade H S line step count plan w.made → ((m : Made) → Has m w.made → AreAllPut H S line count plan m.new)
    → (l : State) → Has l w.heads
    → HasAllObjects H step b plan (log_of_past step known w.past) w l ⊎ CollideAmong H (IsHashedBySteps H S (log_of_past step known w.past))
