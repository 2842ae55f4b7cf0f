-- Theorems about the replies. H is any hash function on byte lists, and for `ClaimsStandThere` one with digests of 32 bytes. The program's
-- is SHA-256.
use Rattle.std.specs.Prelude.{◌≡◌, ◌⊎◌, ◌+◌, ◌<◌, ◌≤◌, ℕ, Bool, if◌then◌else◌, List, [], ◌∷◌, length, map, filter, slice_get, slice_index_or, Some, All, AllPairs, Contains}
use Rattle.ct_codec.specs.Submitted.{Submitted, entry_of, identity_of}
use Rattle.ct_step.specs.StateLines.{IsStateLine, state_line_text}
use Rattle.ct_step.specs.declared.line.StateLine.{StateLine}
use Rattle.ct_step.specs.Claims.{claimed_leaf}
use Rattle.ct_step.specs.Identities.{identity_of_leaf, AreApart, AreNewFrom}
use Rattle.ct_step.specs.declared.claim.Claim.{Claim}
use Rattle.ct_step.specs.Entries.{tree_leaves}
use Rattle.ct_step.specs.Lines.{LineAttempt, AreLineAttempts, entries_after, IsHashedBySteps, IsMadeOfEdge}
use Rattle.ct_step.specs.Steps.{new_entries, IsLog}
use Rattle.ct_step.specs.declared.step.Step.{Step}
use Rattle.ct_data_tiles.specs.TileLeaf.{Tiled}
use Rattle.ct_verify.specs.Hashed.{CollideAmong}
use Rattle.ct_verify.specs.ListLaws.{IsHashedInAudit}
use Rattle.ct_step.specs.StepAsks.{for_step, for_claim}
use Rattle.ct_step.specs.StepAnswers.{edge_of, first_line_by, IsReplyToBy}
use Rattle.ct_step.specs.StepRepeats.{BatchEntry, first_of_each, places_of_all, identities_of}
use Rattle.ct_step.specs.StepWords.{Reference, receipts_at, steps, stands}
use Rattle.ct_verify.specs.ConsistencyEvidence.{IsBeginning}

-- the first line of a log is that of a log without entries
abbrev pub FirstLineBegins : Type 0
FirstLineBegins = (H : List ℕ → List ℕ) (moment : ℕ) → IsLog H [] (first_line_by H moment)

-- The theorems about sequencers apply to a step (`TrueEdgesAgree`, and by `HandedAttemptsAreAttempts` `LineSequencersAgree`). Its edge is
-- that of the contents, and its batch has the first entry of each identity, whether the lock took it or not.
abbrev pub IsStepAttempt : (List ℕ → List ℕ) → StateLine → List BatchEntry → List (List ℕ) → ℕ → Step → Bool → Type 0
IsStepAttempt H line batch contents now step took =
    (edge : List (List ℕ) × List ℕ) × (edge_of line.tree_size contents ≡ Some edge)
    × IsMadeOfEdge H (record {
      edge = edge.0;
      entries = edge.1;
      attempt = record { seen = line; batch = first_of_each [] batch; now = now; step = step; took = took };
    })

-- each step in a reply to a line's text is an attempt
abbrev pub RepliedStepsAreAttempts : Type 0
RepliedStepsAreAttempts =
    (H : List ℕ → List ℕ) (line : StateLine) (batch : List BatchEntry) (contents : List (List ℕ)) (now most : ℕ) (step : Step) (places : List ℕ) (objects : List Reference) (took : Bool)
    → IsStateLine line → IsReplyToBy H (for_step batch contents now (state_line_text line) most) (steps step places objects)
    → IsStepAttempt H line batch contents now step took

-- A receipt (leaf index, timestamp in milliseconds, bytes to be signed) is that of a submission at a claimed index of the log with the
-- entries E:
-- - Its index and its timestamp are the claimed ones (`index`, `moment`).
-- - The bytes are the submission's leaf with these (`signed`), which has the submission's identity (`identity`).
-- - That leaf is at that index of the log, or two strings collide that are hashed when the path is checked, or in the log's tree (`there`).
pub record StandsAsClaimed (H : List ℕ → List ℕ) (E : List Tiled) (claim : Claim) (path : List (List ℕ)) (s : Submitted) (r : ℕ × ℕ × List ℕ) : Type 0 where
  pub index : r.0 ≡ claim.leaf_index
  pub moment : r.1 ≡ claim.timestamp
  pub signed : r.2 ≡ claimed_leaf (entry_of s) claim
  pub identity : identity_of_leaf r.2 ≡ identity_of s
  pub there : ((claim.leaf_index < length E) × (claimed_leaf (entry_of s) claim ≡ slice_index_or (tree_leaves E) claim.leaf_index []))
      ⊎ CollideAmong H (IsHashedInAudit H (tree_leaves E) (claimed_leaf (entry_of s) claim) claim.leaf_index path)

-- a receipt in a reply to a claim is the submission's at the claimed index, in every log that has the state's line
abbrev pub ClaimsStandThere : Type 0
ClaimsStandThere =
    (H : List ℕ → List ℕ) → ((x : List ℕ) → length (H x) ≡ 32) → (line : StateLine) (claim : Claim) (path : List (List ℕ)) (s : Submitted) (r : ℕ × ℕ × List ℕ) (E : List Tiled) → IsStateLine line
    → IsReplyToBy H (for_claim claim path (state_line_text line) s) (stands r) → IsLog H E line
    → StandsAsClaimed H E claim path s r

-- The first entries of a batch and the indexes of all:
-- - The first ones are those of the batch (`entries`) at these indexes (`indexes`), in its order (`rising`).
-- - No identity occurs twice among them (`once`).
-- - Each entry of the batch has an index among them (`within`), at which there is one with its identity (`found`).
-- - The latter is no later in the batch than the entry itself (`first`).
pub record IsSplit (batch firsts : List BatchEntry) (places : List ℕ) : Type 0 where
  pub indexes : List ℕ
  pub entries : map (slice_get batch) indexes ≡ map Some firsts
  pub rising : AllPairs (λ i j. i < j) indexes
  pub once : AreApart (identities_of firsts)
  pub within : All (λ i. i < length firsts) places
  pub found : identities_of batch ≡ map (λ i. slice_index_or (identities_of firsts) i []) places
  pub first : (j : ℕ) → j < length batch → slice_index_or indexes (slice_index_or places j 0) 0 ≤ j

-- the first entries of a batch and the indexes of all are such a split
abbrev pub BatchesAreSplit : Type 0
BatchesAreSplit = (batch : List BatchEntry) → IsSplit batch (first_of_each [] batch) (places_of_all [] batch)

-- the receipt of the entry at an index among those that a batch adds after the entries E at the timestamp `now`: its leaf index, the
-- timestamp and its leaf
abbrev pub receipt_of_place : List Tiled → List BatchEntry → ℕ → ℕ → ℕ × ℕ × List ℕ
receipt_of_place E firsts now i = (length E + i, now, slice_index_or (tree_leaves (new_entries E firsts now)) i [])

-- In a reply to a step, each submission of the batch has the receipt of the entry at its identity's index, in every log that has the
-- state's line.
abbrev pub ReceiptsNameEntries : Type 0
ReceiptsNameEntries =
    (H : List ℕ → List ℕ) (line : StateLine) (batch : List BatchEntry) (contents : List (List ℕ)) (now most : ℕ) (step : Step) (places : List ℕ) (objects : List Reference) (E : List Tiled)
    → IsStateLine line → IsReplyToBy H (for_step batch contents now (state_line_text line) most) (steps step places objects) → IsLog H E line
    → receipts_at step places ≡ map (receipt_of_place E (first_of_each [] batch) now) (places_of_all [] batch)

-- An attempt to carry on the log by lines, whose submissions were looked up first:
-- - the identities that the deduplication index had then (`stored`)
-- - the batch that the line was given, of the submissions that the index was said not to have (`batch`)
-- - the attempt itself (`attempt`), which adds the first one of each identity (`firsts`)
pub record LookedUpLine : Type 0 where
  pub stored : List (List ℕ)
  pub batch : List BatchEntry
  pub attempt : LineAttempt
  pub firsts : attempt.batch ≡ first_of_each [] batch

-- the attempts themselves
abbrev pub line_attempts_of : List LookedUpLine → List LineAttempt
line_attempts_of asked = map (λ b. b.attempt) asked

-- those whose lines the lock took, in order
abbrev pub taken_of_lines : List LookedUpLine → List LookedUpLine
taken_of_lines asked = filter (λ b. b.attempt.took) asked

-- the deduplication index has the identity of each of these entries
abbrev pub StoresEach : List (List ℕ) → List BatchEntry → Type 0
StoresEach stored batch = All (λ e. Contains stored (identity_of e.0)) batch

-- The premises about the deduplication index, if the log began with the entries `known`:
-- - Each miss was true: the index did not have an identity of the batch when it was looked up (`misses`).
-- - The index had the identities of the known entries by then (`had`), and those of each step that was taken before (`written`).
pub record LineMissesWereTrue (known : List Tiled) (steps : List LookedUpLine) : Type 0 where
  pub misses : All (λ b. All (λ e. ¬ (Contains b.stored (identity_of e.0))) b.batch) steps
  pub had : All (λ b. All (λ leaf. Contains b.stored (identity_of_leaf leaf)) (tree_leaves known)) steps
  pub written : AllPairs (λ a b. StoresEach b.stored a.batch) steps

-- the line that the lock holds after some attempts
abbrev pub held_behind : StateLine → List LineAttempt → StateLine
held_behind held [] = held
held_behind held (a ∷ rest) = held_behind (if a.took then a.step.line else held) rest

-- the identities of a log's entries
abbrev pub logged_identities : List Tiled → List (List ℕ)
logged_identities E = map identity_of_leaf (tree_leaves E)

-- Let E be the entries that were known, followed by those of each step that was taken, and let S contain the strings that the makers of the
-- steps hashed. If the misses of the steps that were taken were true, the line that the lock holds in the end is that of E. Also, E has at
-- most one entry of each identity after those that were known, and none with an identity of a known entry. The alternative is a collision
-- of two strings that S contains, or that are hashed for the log's lines.
abbrev pub OneEntryAnIdentityByLines : Type 0
OneEntryAnIdentityByLines =
    (H : List ℕ → List ℕ) (S : List (List ℕ)) (held : StateLine) (known : List Tiled) (asked : List LookedUpLine) → IsLog H known held
    → AreLineAttempts H S held (line_attempts_of asked) → LineMissesWereTrue known (taken_of_lines asked) → (E : List Tiled)
    → E ≡ entries_after known (line_attempts_of asked)
    → (IsLog H E (held_behind held (line_attempts_of asked)) × IsBeginning known E × AreNewFrom (length known) (logged_identities E))
    ⊎ CollideAmong H (IsHashedBySteps H S E)
