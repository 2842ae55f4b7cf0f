-- The replies to the requests. H is any hash function on byte lists, and the program's is SHA-256.
use Rattle.std.specs.Prelude.{◌≡◌, ◌⊎◌, ◌+◌, ◌<◌, ◌≤◌, ◌/◌, ◌%◌, ℕ, zero, suc, List, [], ◌∷◌, All, nat_lt, if◌then◌else◌, Option, Some, None, option_map, option_and_then, replicate}
use Rattle.sha2.specs.Sha256.{sha256}
use Rattle.ct_step.specs.Bundle.{IsBundleOf}
use Rattle.ct_step.specs.Needed.{needed_names}
use Rattle.ct_codec.specs.Submitted.{Submitted, entry_of}
use Rattle.ct_step.specs.Leaves.{receipt_parts}
use Rattle.ct_step.specs.declared.growth.GrowthFault.TheVariants.{ClockBack, Full, Refused}
use Rattle.ct_step.specs.declared.receipts.Receipt.{Receipt}
use Rattle.ct_step.specs.Claims.{IsBelievedAt, IsAnsweredAt}
use Rattle.ct_step.specs.declared.claim.Claim.{Claim}
use Rattle.ct_step.specs.StateLines.{IsStateLine, NoStateLine, state_line_text}
use Rattle.ct_step.specs.declared.line.StateLine.{StateLine}
use Rattle.ct_step.specs.Steps.{line_head, IsEdgeOf, IsStepFrom, IsTiledStep, MayStep, StopsStep}
use Rattle.ct_step.specs.declared.step.Step.{Step}
use Rattle.ct_step.specs.declared.step.StepFault.{StepFault}
use Rattle.ct_step.specs.declared.step.StepFault.TheVariants.{Edge, Entries, Growth, TooLong}
use Rattle.ct_data_tiles.specs.TileLeaf.{Tiled}
use Rattle.ct_step.specs.StepAsks.{StepAsk, for_begin, for_needs, for_step, for_too_many, for_resume, for_claim, for_no_edge, for_no_batch}
use Rattle.ct_step.specs.StepRepeats.{first_of_each, places_of_all}
use Rattle.ct_step.specs.StepWords.{IsTileName, StepReply, references_of, begins, names_edge, steps, rolls_out, stands, refuses}
use Rattle.ct_step.specs.declared.answer.StepRefusal.{StepRefusal}
use Rattle.ct_step.specs.declared.answer.StepRefusal.TheVariants as name

-- 32 bytes, all of them 0: the digest of something that does not exist
abbrev pub no_digest : List ℕ
no_digest = replicate 32 0

-- the line of a log without leaves at a timestamp: no step made it, and no line is before it
abbrev pub first_line_by : (List ℕ → List ℕ) → ℕ → StateLine
first_line_by H moment = record {
  tree_size = 0;
  timestamp = moment;
  root = H [];
  bundle = no_digest;
  data_tile = H [];
  before = no_digest;
}

-- the same by SHA-256
abbrev pub first_line : ℕ → StateLine
first_line moment = first_line_by sha256 moment

-- the first content, and the contents after it
abbrev pub first_content : List (List ℕ) → Option (List ℕ × List (List ℕ))
first_content [] = None
first_content (c ∷ contents) = Some (c, contents)

-- the bytes of the partial tile that n hashes or entries leave after full ones, and the contents after them: the first content, or no bytes
-- if they leave none
abbrev pub edge_part : ℕ → List (List ℕ) → Option (List ℕ × List (List ℕ))
edge_part n contents = if nat_lt 0 (n % 256) then first_content contents else Some ([], contents)

-- the bytes of the partial tiles of `levels` levels, the lowest of which has n hashes, and the contents after them
unfoldable pub level_parts : ℕ → ℕ → List (List ℕ) → Option (List (List ℕ) × List (List ℕ))
level_parts zero n contents = Some ([], contents)
level_parts (suc levels) n contents =
    option_and_then (λ p. option_map (λ q. (p.0 ∷ q.0, q.1)) (level_parts levels (n / 256) p.1)) (edge_part n contents)

-- the value, if no content is left
abbrev pub if_none_left : {A : Type 0} → A → List (List ℕ) → Option A
if_none_left found [] = Some found
if_none_left found (c ∷ contents) = None

-- Contents in the order of `needed_names`, arranged as a step of a log of n leaves takes them: the bytes of the partial tile of each of 8
-- levels, level 0 first, and those of the partial data tile. The bytes are empty if there is no such tile. The result is None if there are
-- more or fewer contents than names.
abbrev pub edge_of : ℕ → List (List ℕ) → Option (List (List ℕ) × List ℕ)
edge_of n contents = option_and_then (λ q. option_and_then (λ p. if_none_left (q.0, p.0) p.1) (edge_part n q.1)) (level_parts 8 n contents)

-- the text is that of a line with this property, or it is not a line's and the reply says so
abbrev pub OfState : List ℕ → StepReply → (StateLine → Type 0) → Type 0
OfState text reply P =
    ((line : StateLine) × IsStateLine line × (state_line_text line ≡ text) × P line) ⊎ (NoStateLine text × (reply ≡ refuses name.BadState))

-- the name of the reason why there is no step: lack of memory has no name
abbrev pub NamesStepFault : StepFault → StepRefusal → Type 0
NamesStepFault Edge r = r ≡ name.Edge
NamesStepFault Entries r = r ≡ name.Entries
NamesStepFault (Growth ClockBack) r = r ≡ name.ClockBack
NamesStepFault (Growth Full) r = r ≡ name.Full
NamesStepFault (Growth (Refused refusal)) r = ⊥
NamesStepFault TooLong r = r ≡ name.TooLong

-- the bytes are the staged batch of these objects, each of which has the name of a tile
abbrev pub IsBundleOfTiles : List (List ℕ × List ℕ) → List ℕ → Type 0
IsBundleOfTiles objects bytes = IsBundleOf objects bytes × All (λ o. IsTileName o.0) objects

-- these are the objects of a staged batch if it is one of objects with the names of tiles, and otherwise there are no objects
abbrev pub AreObjectsIn : List ℕ → List (List ℕ × List ℕ) → Type 0
AreObjectsIn bytes objects = IsBundleOfTiles objects bytes
    ⊎ ((objects ≡ []) × ((others : List (List ℕ × List ℕ)) → IsBundleOfTiles others bytes → ⊥))

-- the reply has this step, the receipts at these indexes of it, and the positions of the objects in its staged batch
abbrev pub TellsObjects : Step → List ℕ → StepReply → Type 0
TellsObjects s places reply = (objects : List (List ℕ × List ℕ)) × (reply ≡ steps s places (references_of sha256 objects)) × AreObjectsIn s.bundle.items objects

-- The reply has a step from a line with these partial tiles and this partial data tile, a batch and a timestamp:
-- - The first entry of each identity in the batch may be added.
-- - It is a step of these entries from the line, and for every log whose edge was received the step of that log.
-- - Each submission of the batch has the receipt at the index of its identity, and the reply has the positions of the objects in the staged
--   batch.
abbrev pub TellsStepBy : (List ℕ → List ℕ) → StateLine → List (List ℕ) × List ℕ → List (Submitted × List (List ℕ)) → ℕ → StepReply → Type 0
TellsStepBy H line edge batch now reply =
    (s : Step) × (objects : List (List ℕ × List ℕ)) × (reply ≡ steps s (places_of_all [] batch) (references_of H objects))
    × AreObjectsIn s.bundle.items objects × MayStep H line edge.0 edge.1 (first_of_each [] batch) now
    × IsStepFrom H line (first_of_each [] batch) now s
    × ((E : List Tiled) → IsEdgeOf H E line.tree_size edge.0 edge.1 → IsTiledStep H line E (first_of_each [] batch) now s)

-- the reply has the name of the reason why there is no such step
abbrev pub TellsNoStepBy : (List ℕ → List ℕ) → StateLine → List (List ℕ) × List ℕ → List (Submitted × List (List ℕ)) → ℕ → StepReply → Type 0
TellsNoStepBy H line edge batch now reply =
    (fault : StepFault) × (r : StepRefusal) × (reply ≡ refuses r) × NamesStepFault fault r
    × StopsStep H line edge.0 edge.1 (first_of_each [] batch) now fault

-- the reply to the request for a step from a line: if there are more or fewer contents than are needed, it refuses the edge
abbrev pub IsStepReplyBy : (List ℕ → List ℕ) → StateLine → Option (List (List ℕ) × List ℕ) → List (Submitted × List (List ℕ)) → ℕ → StepReply → Type 0
IsStepReplyBy H line None batch now reply = reply ≡ refuses name.Edge
IsStepReplyBy H line (Some edge) batch now reply = TellsStepBy H line edge batch now reply ⊎ TellsNoStepBy H line edge batch now reply

-- the same by SHA-256
abbrev pub IsStepReply : StateLine → Option (List (List ℕ) × List ℕ) → List (Submitted × List (List ℕ)) → ℕ → StepReply → Type 0
IsStepReply line edge batch now reply = IsStepReplyBy sha256 line edge batch now reply

-- the reply to the request for a step from a line whose timestamp may be at most `most` milliseconds after the line's: if it is later, the
-- reply is only this refusal
abbrev pub IsBoundedReplyBy : (List ℕ → List ℕ) → StateLine → Option (List (List ℕ) × List ℕ) → List (Submitted × List (List ℕ)) → ℕ → ℕ → StepReply → Type 0
IsBoundedReplyBy H line edge batch now most reply =
    ((line.timestamp + most < now) × (reply ≡ refuses name.TooFar)) ⊎ ((now ≤ line.timestamp + most) × IsStepReplyBy H line edge batch now reply)

-- the same by SHA-256
abbrev pub IsBoundedReply : StateLine → Option (List (List ℕ) × List ℕ) → List (Submitted × List (List ℕ)) → ℕ → ℕ → StepReply → Type 0
IsBoundedReply line edge batch now most reply = IsBoundedReplyBy sha256 line edge batch now most reply

-- The reply has the positions in a staged batch of the objects of the step that made a line: the staged batch has the line's digest, and is
-- that of these objects.
abbrev pub TellsObjectsBy : (List ℕ → List ℕ) → StateLine → List ℕ → StepReply → Type 0
TellsObjectsBy H line bundle reply =
    (objects : List (List ℕ × List ℕ)) × (reply ≡ rolls_out line (references_of H objects)) × (H bundle ≡ line.bundle) × IsBundleOfTiles objects bundle

-- the bytes are not the staged batch of a line: they have another digest, or are not the staged batch of objects with the names of tiles
abbrev pub IsNotRolledOutBy : (List ℕ → List ℕ) → StateLine → List ℕ → Type 0
IsNotRolledOutBy H line bundle =
    (H bundle ≡ line.bundle → ⊥) ⊎ ((objects : List (List ℕ × List ℕ)) → IsBundleOfTiles objects bundle → ⊥)

-- the same by SHA-256
abbrev pub IsNotRolledOut : StateLine → List ℕ → Type 0
IsNotRolledOut line bundle = IsNotRolledOutBy sha256 line bundle

-- the reply to the request for the objects of a line's step
abbrev pub IsResumeReplyBy : (List ℕ → List ℕ) → StateLine → List ℕ → StepReply → Type 0
IsResumeReplyBy H line bundle reply = TellsObjectsBy H line bundle reply ⊎ ((reply ≡ refuses name.Bundle) × IsNotRolledOutBy H line bundle)

-- the same by SHA-256
abbrev pub IsResumeReply : StateLine → List ℕ → StepReply → Type 0
IsResumeReply line bundle reply = IsResumeReplyBy sha256 line bundle reply

-- The reply has the receipt of a submission's entry at a claimed index: a path leads from that entry's leaf to the root in the line.
abbrev pub TellsClaimBy : (List ℕ → List ℕ) → StateLine → Claim → List (List ℕ) → Submitted → StepReply → Type 0
TellsClaimBy H line claim path s reply =
    (r : Receipt) × (reply ≡ stands (receipt_parts r)) × IsAnsweredAt H (line_head line) (entry_of s) claim path r

-- the reply to the index that is claimed for a submission: a refusal if and only if the path does not lead there
abbrev pub IsClaimReplyBy : (List ℕ → List ℕ) → StateLine → Claim → List (List ℕ) → Submitted → StepReply → Type 0
IsClaimReplyBy H line claim path s reply =
    TellsClaimBy H line claim path s reply ⊎ ((reply ≡ refuses name.Claim) × (IsBelievedAt H (line_head line) (entry_of s) claim path → ⊥))

-- the same by SHA-256
abbrev pub IsClaimReply : StateLine → Claim → List (List ℕ) → Submitted → StepReply → Type 0
IsClaimReply line claim path s reply = IsClaimReplyBy sha256 line claim path s reply

-- The reply to each request. Every other reply is wrong. An edge that is not a list of contents is refused as one with more or fewer contents
-- than are needed: the state and the timestamp are judged before it.
abbrev pub IsReplyToBy : (List ℕ → List ℕ) → StepAsk → StepReply → Type 0
IsReplyToBy H (for_begin moment) reply = reply ≡ begins (first_line_by H moment)
IsReplyToBy H (for_needs state) reply = OfState state reply (λ line. reply ≡ names_edge (needed_names line.tree_size))
IsReplyToBy H (for_step batch contents now state most) reply =
    OfState state reply (λ line. IsBoundedReplyBy H line (edge_of line.tree_size contents) batch now most reply)
IsReplyToBy H for_too_many reply = reply ≡ refuses name.TooMany
IsReplyToBy H (for_resume bundle state) reply = OfState state reply (λ line. IsResumeReplyBy H line bundle reply)
IsReplyToBy H (for_claim claim path state s) reply = OfState state reply (λ line. IsClaimReplyBy H line claim path s reply)
IsReplyToBy H (for_no_edge now state most) reply = OfState state reply (λ line. IsBoundedReplyBy H line None [] now most reply)
IsReplyToBy H for_no_batch reply = reply ≡ refuses name.BadBatch

-- the same by SHA-256
abbrev pub IsReplyTo : StepAsk → StepReply → Type 0
IsReplyTo ask reply = IsReplyToBy sha256 ask reply
