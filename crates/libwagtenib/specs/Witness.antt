-- The codes and the bytes that a call of the witness returns and writes. H is any hash function on byte lists. The library's is SHA-256.
use Rattle.std.specs.Prelude.{◌≡◌, ◌≢◌, ◌⊎◌, ◌<◌, ◌≤◌, ◌^◌, ℕ, List}
use Rattle.std.specs.Str.{IsUtf8}
use Rattle.ct_checkpoint.specs.Checkpoint.{IsCheckpoint}
use Rattle.ct_checkpoint.specs.Message.{cosignature_message}
use Rattle.ct_verify.specs.Laws.{AreHashes}
use Rattle.ct_witness.specs.declared.refusal.WitnessRefusal.{WitnessRefusal}
use Rattle.ct_witness.specs.declared.tree.Tree.{Tree}
use Rattle.ct_witness.specs.Runs.{no_tree}
use Rattle.ct_witness.specs.Witnessed.{PassesTree, StopsTree}
use Rattle.libwagtenib.specs.Codes.{tree_code}
use Rattle.libwagtenib.specs.Output.{WritesOutput}
use Rattle.libwagtenib.specs.declared.message.WitnessedTree.{WitnessedTree}

-- a log's tree that was cosigned, the log's origin, and the time of the cosignature in seconds since 1970
pub record Cosigned : Type 0 where
  pub origin : List ℕ
  pub tree : Tree
  pub time : ℕ

-- the same of an origin, a tree and a time
abbrev pub cosigned : List ℕ → Tree → ℕ → Cosigned
cosigned origin tree time = record { origin = origin; tree = tree; time = time }

-- a tree of a size and a root
abbrev pub tree_of : ℕ → List ℕ → Tree
tree_of size root = record { size = size; root = root }

-- the text is the checkpoint of this tree of the log with this origin (C2SP tlog-checkpoint), in UTF-8
abbrev pub IsCheckpointOf : List ℕ → Tree → List ℕ → Type 0
IsCheckpointOf origin tree text = IsUtf8 text × IsCheckpoint origin tree.size tree.root text

-- the text is the checkpoint of no tree
abbrev pub IsNoCheckpoint : List ℕ → Type 0
IsNoCheckpoint text = (origin : List ℕ) (tree : Tree) → IsCheckpointOf origin tree text → ⊥

-- the bytes are the message that was cosigned (C2SP tlog-cosignature): a time of 64 bits, and the text of the tree's checkpoint
abbrev pub IsMessageOf : Cosigned → List ℕ → Type 0
IsMessageOf c bytes = (text : List ℕ) × IsCheckpointOf c.origin c.tree text × (c.time < 2 ^ 64) × (bytes ≡ cosignature_message c.time text)

-- the bytes are the message of no cosignature
abbrev pub IsNoMessage : List ℕ → Type 0
IsNoMessage bytes = (c : Cosigned) → IsMessageOf c bytes → ⊥

-- the last cosignature before the first one: no tree, at the time 0
abbrev pub none_yet : (List ℕ → List ℕ) → List ℕ → Cosigned
none_yet H origin = record { origin = origin; tree = no_tree H; time = 0 }

-- A tree may be cosigned after the last one: it is of the same log, the witness lets it through by this old size and this proof, whose elements have 32 bytes,
-- and the time is neither 0 nor earlier than the last one's.
abbrev pub MayCosign : (List ℕ → List ℕ) → Cosigned → List ℕ → Tree → ℕ → List (List ℕ) → ℕ → Type 0
MayCosign H last origin tree old proof time =
    (origin ≡ last.origin) × PassesTree H last.tree old tree proof × AreHashes proof × (0 < time) × (last.time ≤ time)

-- The number of the first reason why it may not. 97: it is of another log. The witness stops it. 101: the time is 0, or earlier than the last one's.
abbrev pub MayNotCosign : (List ℕ → List ℕ) → Cosigned → List ℕ → Tree → ℕ → List (List ℕ) → ℕ → ℕ → Type 0
MayNotCosign H last origin tree old proof time code =
    ((code ≡ 97) × (origin ≢ last.origin))
    ⊎ ((origin ≡ last.origin) × (((r : WitnessRefusal) × (code ≡ tree_code r) × StopsTree H last.tree old tree proof r)
    ⊎ ((code ≡ 101) × PassesTree H last.tree old tree proof × ((time ≡ 0) ⊎ (time < last.time)))))

-- A call after the last cosignature. 96: the text is no checkpoint. 0: it is that of a tree that may be cosigned, and the message is written. 9: the message has
-- no room. Otherwise the number of the first reason why the tree may not be cosigned. 8: an allocation was refused. Nothing is written but at 0, and the length at
-- 0 and 9.
abbrev pub CosignsAfter : (List ℕ → List ℕ) → ℕ → Cosigned → List ℕ → ℕ → List (List ℕ) → ℕ → List ℕ → List ℕ → ℕ → ℕ → Type 0
CosignsAfter H code last text old proof time before after count_before count =
    ((code ≡ 96) × IsNoCheckpoint text × (after ≡ before) × (count ≡ count_before))
    ⊎ (((origin : List ℕ) × (tree : Tree) × IsCheckpointOf origin tree text
    × ((MayCosign H last origin tree old proof time × WritesOutput (cosignature_message time text) code before after count)
    ⊎ (MayNotCosign H last origin tree old proof time code × (after ≡ before) × (count ≡ count_before))))
    ⊎ ((code ≡ 8) × (after ≡ before) × (count ≡ count_before)))

-- A call before the first cosignature of the log with this origin.
abbrev pub CosignsFirst : (List ℕ → List ℕ) → ℕ → List ℕ → List ℕ → ℕ → List (List ℕ) → ℕ → List ℕ → List ℕ → ℕ → ℕ → Type 0
CosignsFirst H code origin text old proof time before after count_before count =
    CosignsAfter H code (none_yet H origin) text old proof time before after count_before count

-- A call over a state. 36: it is the message of no cosignature. Otherwise the call is one after the cosignature whose message it is. 8: an allocation was refused.
abbrev pub Cosigns : (List ℕ → List ℕ) → ℕ → List ℕ → List ℕ → ℕ → List (List ℕ) → ℕ → List ℕ → List ℕ → ℕ → ℕ → Type 0
Cosigns H code state text old proof time before after count_before count =
    ((code ≡ 36) × IsNoMessage state × (after ≡ before) × (count ≡ count_before))
    ⊎ (((last : Cosigned) × IsMessageOf last state × CosignsAfter H code last text old proof time before after count_before count)
    ⊎ ((code ≡ 8) × (after ≡ before) × (count ≡ count_before)))

-- a cosignature is the one that was seen, or a later one of the same log: its time is not earlier, and its tree is the same or has more leaves
abbrev pub IsSeenOrLater : Cosigned → Cosigned → Type 0
IsSeenOrLater seen found =
    (found.origin ≡ seen.origin) × (seen.time ≤ found.time) × ((found.tree ≡ seen.tree) ⊎ (seen.tree.size < found.tree.size))

-- the tree and the time of a cosignature, as callers in C have them
abbrev pub Describes : WitnessedTree → Cosigned → Type 0
Describes w c = (w.tree_size ≡ c.tree.size) × (w.time ≡ c.time) × (w.root ≡ c.tree.root)

-- 36: a state that was handed in is the message of no cosignature. 0: the state's tree and time are written, and it is that of the state that was seen or a later
-- one. 37: it is neither. 8: an allocation was refused. Nothing is written but at 0.
abbrev pub ReadsWitnessState : ℕ → List ℕ → List ℕ → WitnessedTree → WitnessedTree → Type 0
ReadsWitnessState code seen state before after =
    ((code ≡ 36) × (IsNoMessage state ⊎ IsNoMessage seen) × (after ≡ before))
    ⊎ (((found old : Cosigned) × IsMessageOf found state × IsMessageOf old seen
    × (((code ≡ 0) × IsSeenOrLater old found × Describes after found)
    ⊎ ((code ≡ 37) × (IsSeenOrLater old found → ⊥) × (after ≡ before))))
    ⊎ ((code ≡ 8) × (after ≡ before)))
