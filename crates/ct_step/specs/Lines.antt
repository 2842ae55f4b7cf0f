-- Many sequencers over one lock that holds the log's line, each of which receives the right edge and the partial data tile from elsewhere.
-- H is any hash function on byte lists.
use Rattle.std.specs.Prelude.{◌≡◌, ◌⊎◌, ⊤, Bool, true, false, ℕ, ◌<◌, ◌≤◌, if◌then◌else◌, Contains, List, [], ◌∷◌, ◌++◌, length, map, take, drop, filter, All, AllPairs}
use Rattle.ct_codec.specs.Submitted.{Submitted}
use Rattle.ct_data_tiles.specs.TileLeaf.{Tiled}
use Rattle.ct_step.specs.declared.line.StateLine.{StateLine}
use Rattle.ct_verify.specs.Hashed.{CollideAmong}
use Rattle.ct_step.specs.Entries.{tiled_leaves}
use Rattle.ct_step.specs.Steps.{new_entries, IsEdgeOf, IsHashedOfHanded, IsHashedOfLog, IsLog, IsStepFrom, IsTiledStep, MayStep}
use Rattle.ct_step.specs.declared.step.Step.{Step}
use Rattle.ct_verify.specs.ConsistencyEvidence.{IsBeginning}

-- An attempt to carry on the log: the line that was read (`seen`), the submissions with their chains' fingerprints (`batch`), the timestamp
-- (`now`), the step that was made from these (`step`), and whether the lock took the step's line in place of the one that was read
-- (`took`).
pub record LineAttempt : Type 0 where
  pub seen : StateLine
  pub batch : List (Submitted × List (List ℕ))
  pub now : ℕ
  pub step : Step
  pub took : Bool

-- The attempt's step is a result of `take_step` for its line, its batch, its timestamp, and any received edge and data tile. S contains the
-- strings that its maker hashed:
-- - The attempt's timestamp is later than the line's, and S contains its staged batch.
-- - It is the step of each log that has the line, or two strings collide, each of which S contains or is hashed for the line of that log.
abbrev pub IsMadeOfLine : (List ℕ → List ℕ) → List (List ℕ) → LineAttempt → Type 0
IsMadeOfLine H S a =
    (a.seen.timestamp < a.now) × Contains S a.step.bundle.items
    × ((E : List Tiled) → IsLog H E a.seen
    → IsTiledStep H a.seen E a.batch a.now a.step ⊎ CollideAmong H (λ s. Contains S s ⊎ IsHashedOfLog H E s))

-- Attempts in the order in which the lock answered, beginning with the line that it held. It took a line only in place of the one that it
-- held. Nothing is assumed about the maker of an attempt, or about what happened to the maker afterwards.
unfoldable pub AreLineAttempts : (List ℕ → List ℕ) → List (List ℕ) → StateLine → List LineAttempt → Type 0
AreLineAttempts H S held [] = ⊤
AreLineAttempts H S held (a ∷ rest) =
    IsMadeOfLine H S a
    × (((a.took ≡ true) × (a.seen ≡ held) × AreLineAttempts H S a.step.line rest) ⊎ ((a.took ≡ false) × AreLineAttempts H S held rest))

-- the attempts whose lines the lock took, in order
abbrev pub taken_lines : List LineAttempt → List LineAttempt
taken_lines attempts = filter (λ a. a.took) attempts

-- Everything that an attempt's step wrote and promised belongs to the entries E:
-- - Its line is that of a beginning of E (`size`, `log`).
-- - It is the step from the beginning of E that the line which was read has (`step`).
-- - The entries of its batch follow that beginning in E (`entries`).
pub record IsStepOf (H : List ℕ → List ℕ) (E : List Tiled) (a : LineAttempt) : Type 0 where
  pub size : a.step.line.tree_size ≤ length E
  pub log : IsLog H (take a.step.line.tree_size E) a.step.line
  pub step : IsTiledStep H a.seen (take a.seen.tree_size E) a.batch a.now a.step
  pub entries : tiled_leaves a.now a.seen.tree_size a.batch ≡ take (length a.batch) (drop a.seen.tree_size E)

-- the attempt b came after the attempt a: its timestamp is later, and its entries begin at the end of those of a's line, or after it
pub record ComesBehindLine (a b : LineAttempt) : Type 0 where
  pub moment : a.step.line.timestamp < b.step.line.timestamp
  pub entries : a.step.line.tree_size ≤ b.seen.tree_size

-- Steps, in the order in which they were taken, carry on one log with the entries E, from a line with the timestamp `since`:
-- - Everything that each step wrote and promised belongs to E (`all`).
-- - Each timestamp is later than `since` (`later`).
-- - For any two steps, the second came after the first (`order`).
pub record CarryOnLines (H : List ℕ → List ℕ) (since : ℕ) (E : List Tiled) (steps : List LineAttempt) : Type 0 where
  pub all : All (IsStepOf H E) steps
  pub later : All (λ a. since < a.step.line.timestamp) steps
  pub order : AllPairs ComesBehindLine steps

-- the entries after these attempts: those that were known, followed by those of each attempt whose line the lock took
unfoldable pub entries_after : List Tiled → List LineAttempt → List Tiled
entries_after known [] = known
entries_after known (a ∷ rest) = entries_after (if a.took then known ++ new_entries known a.batch a.now else known) rest

-- the strings that S contains, and those that are hashed for the lines of the log while it grows to the entries E
abbrev pub IsHashedBySteps : (List ℕ → List ℕ) → List (List ℕ) → List Tiled → List ℕ → Type 0
IsHashedBySteps H S E s = Contains S s ⊎ ((n : ℕ) × (n ≤ length E) × IsHashedOfLog H (take n E) s)

-- Let E be the entries that were known, followed by those of each attempt whose line the lock took, and let S contain the strings that the
-- makers of the steps hashed. All steps whose lines the lock took carry on E. The alternative is a collision of two strings that S
-- contains, or that are hashed for the log's lines.
abbrev pub LineSequencersAgree : Type 0
LineSequencersAgree =
    (H : List ℕ → List ℕ) (S : List (List ℕ)) (held : StateLine) (known : List Tiled) (attempts : List LineAttempt) → IsLog H known held
    → AreLineAttempts H S held attempts → (E : List Tiled) → E ≡ entries_after known attempts
    → (IsBeginning known E × CarryOnLines H held.timestamp E (taken_lines attempts)) ⊎ CollideAmong H (IsHashedBySteps H S E)

-- An attempt with the bytes that its maker received: those of the partial tiles (`edge`), those of the partial data tile (`entries`), and
-- the attempt itself (`attempt`).
pub record HandedLineAttempt : Type 0 where
  pub edge : List (List ℕ)
  pub entries : List ℕ
  pub attempt : LineAttempt

-- The attempt's step is the result of `take_step` for its line, the received bytes, its batch and its timestamp. It may be made (`may`),
-- and it is a step from the line (`from`). For each log whose edge was received it is the step of that log (`step`).
pub record IsMadeOfEdge (H : List ℕ → List ℕ) (b : HandedLineAttempt) : Type 0 where
  pub may : MayStep H b.attempt.seen b.edge b.entries b.attempt.batch b.attempt.now
  pub from : IsStepFrom H b.attempt.seen b.attempt.batch b.attempt.now b.attempt.step
  pub step : (E : List Tiled) → IsEdgeOf H E b.attempt.seen.tree_size b.edge b.entries
      → IsTiledStep H b.attempt.seen E b.attempt.batch b.attempt.now b.attempt.step

-- Attempts in the order in which the lock answered, beginning with the line that it held, which is that of a log with the entries E. It
-- took a line only in place of the one that it held, and each step that it took received the edge of the log.
unfoldable pub AreTrueAttempts : (List ℕ → List ℕ) → StateLine → List Tiled → List HandedLineAttempt → Type 0
AreTrueAttempts H held E [] = ⊤
AreTrueAttempts H held E (b ∷ rest) =
    IsMadeOfEdge H b
    × (((b.attempt.took ≡ true) × (b.attempt.seen ≡ held) × IsEdgeOf H E held.tree_size b.edge b.entries
    × AreTrueAttempts H b.attempt.step.line (E ++ new_entries E b.attempt.batch b.attempt.now) rest)
    ⊎ ((b.attempt.took ≡ false) × AreTrueAttempts H held E rest))

-- the attempts themselves
abbrev pub handed_line_attempts : List HandedLineAttempt → List LineAttempt
handed_line_attempts attempts = map (λ b. b.attempt) attempts

-- Suppose that each step that was taken received the edge of the log. Then there is one list of entries that all the steps carry on whose
-- lines the lock took. It begins with the entries that were known.
abbrev pub TrueEdgesAgree : Type 0
TrueEdgesAgree =
    (H : List ℕ → List ℕ) (held : StateLine) (known : List Tiled) (attempts : List HandedLineAttempt) → IsLog H known held
    → AreTrueAttempts H held known attempts
    → (E : List Tiled) × IsBeginning known E × CarryOnLines H held.timestamp E (taken_lines (handed_line_attempts attempts))

-- the strings that the maker of a step hashes: those of the received bytes, and the step's staged batch
abbrev pub IsHashedByMaker : (List ℕ → List ℕ) → HandedLineAttempt → List ℕ → Type 0
IsHashedByMaker H b s = IsHashedOfHanded H b.edge b.entries s ⊎ (s ≡ b.attempt.step.bundle.items)

-- A finite number of strings is hashed: there is a list of all strings that the makers of these attempts hash.
abbrev pub HashedStringsAreListed : Type 0
HashedStringsAreListed =
    (H : List ℕ → List ℕ) (attempts : List HandedLineAttempt)
    → (S : List (List ℕ)) × All (λ (b : HandedLineAttempt). (s : List ℕ) → IsHashedByMaker H b s → Contains S s) attempts

-- A step that was made from any received bytes is an attempt from its line, if S contains the strings that its maker hashed.
abbrev pub HandedAttemptsAreAttempts : Type 0
HandedAttemptsAreAttempts =
    (H : List ℕ → List ℕ) → ((x : List ℕ) → length (H x) ≡ 32) → (S : List (List ℕ)) (b : HandedLineAttempt) → IsMadeOfEdge H b
    → ((s : List ℕ) → IsHashedByMaker H b s → Contains S s) → IsMadeOfLine H S b.attempt
