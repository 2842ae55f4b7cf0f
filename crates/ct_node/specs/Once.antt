-- No identity occurs twice in the log that nodes write, unless the deduplication index misses an entry. H is any hash function on byte
-- lists.
use Rattle.std.specs.Prelude.{◌≡◌, ◌⊎◌, ℕ, List, map, length, take}
use Rattle.ct_codec.specs.Submitted.{identity_of}
use Rattle.ct_data_tiles.specs.TileLeaf.{Tiled}
use Rattle.ct_step.specs.Identities.{identity_of_leaf, AreApart, AreNewFrom}
use Rattle.ct_step.specs.declared.line.StateLine.{StateLine}
use Rattle.ct_verify.specs.Hashed.{CollideAmong}
use Rattle.ct_node.specs.declared.state.State.{State}
use Rattle.ct_node.specs.Worlds.{Has, Made, World, Happening, beginning, IsFirstState, LeadTo}
use Rattle.ct_node.specs.LookUps.{AllLookUp}
use Rattle.ct_step.specs.Entries.{tree_leaves}
use Rattle.ct_step.specs.Lines.{LineAttempt, IsHashedBySteps}
use Rattle.ct_step.specs.Steps.{IsLog}
use Rattle.ct_node.specs.Logs.{IsAttempt, log_of_past}
use Rattle.ct_verify.specs.ConsistencyEvidence.{IsBeginning}

-- the identities of a log's entries
abbrev pub entry_identities : List Tiled → List (List ℕ)
entry_identities E = map identity_of_leaf (tree_leaves E)

-- the identities of the submissions of an attempt
abbrev pub batch_identities : LineAttempt → List (List ℕ)
batch_identities a = map (λ e. identity_of e.0) a.batch

-- each step was made by `take_step`, from a batch with the identities that its state adds, each of them once
abbrev pub AreStepsAdding : (List ℕ → List ℕ) → List (List ℕ) → (State → StateLine) → (Made → LineAttempt) → (State → List (List ℕ)) → List Made → Type 0
AreStepsAdding H S line step ids made =
    (m : Made) → Has m made → IsAttempt H S line m (step m) × (batch_identities (step m) ≡ ids m.new) × AreApart (ids m.new)

-- Whatever happens, let E be the log that the lock took, and let S contain the strings that nodes hashed when they made steps. ids returns
-- the identities that a state adds, and for the first state those of the known entries. Suppose that each step was looked up before it was
-- made, that the deduplication index misses no entry, and that no batch has an identity twice. Then the lock's line is that of E, and E
-- begins with the entries that were known. After these, E has no identity that occurs before. The alternative is a collision of two strings
-- that S contains, or that are hashed for the log's lines.
abbrev pub NodesAddOnce : Type 0
NodesAddOnce =
    (H : List ℕ → List ℕ) (S : List (List ℕ)) (line : State → StateLine) (step : Made → LineAttempt) (ids : State → List (List ℕ)) (known : List Tiled)
    (count : State → ℕ) (b : State) (hs : List Happening) (w : World) → IsFirstState count b → LeadTo count (beginning b) hs w → IsLog H known (line b)
    → (ids b ≡ entry_identities known) → AreStepsAdding H S line step ids w.made → AllLookUp ids (beginning b) hs
    → (E : List Tiled) → E ≡ log_of_past step known w.past
    → (IsLog H E (line w.held) × IsBeginning known E × AreNewFrom (length known) (entry_identities E)) ⊎ CollideAmong H (IsHashedBySteps H S E)
