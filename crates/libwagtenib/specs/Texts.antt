-- The codes and the bytes of calls over the texts and bytes that are signed.
use Rattle.std.specs.Prelude.{◌≡◌, ◌⊎◌, ◌++◌, ℕ, List, ◌∷◌, length, take}
use Rattle.std.specs.Str.{IsUtf8}
use Rattle.ct_checkpoint.specs.Checkpoint.{checkpoint_text}
use Rattle.ct_checkpoint.specs.Message.{cosignature_message}
use Rattle.libwagtenib.specs.declared.texts.CheckpointInfo.{CheckpointInfo}
use Rattle.libwagtenib.specs.Output.{WritesOutput}
use Rattle.libwagtenib.specs.Step.{IsOrigin}
use Rattle.libwagtenib.specs.Witness.{tree_of, IsCheckpointOf, IsNoCheckpoint}

-- The text of the checkpoint is written, as WritesOutput says (C2SP tlog-checkpoint). 10: the bytes are no origin. 8: an allocation was refused. Nothing else is
-- written then.
abbrev pub WritesCheckpoint : List ℕ → ℕ → List ℕ → ℕ → List ℕ → List ℕ → ℕ → ℕ → Type 0
WritesCheckpoint origin size root code before after count_before count =
    (IsOrigin origin × WritesOutput (checkpoint_text origin size root) code before after count)
    ⊎ (((code ≡ 10) × (IsOrigin origin → ⊥) × (after ≡ before) × (count ≡ count_before))
    ⊎ ((code ≡ 8) × (after ≡ before) × (count ≡ count_before)))

-- 0: the text is the checkpoint of this tree of the log with this origin. 96: it is the checkpoint of no tree. 8: an allocation was refused. Nothing is written
-- but at 0.
abbrev pub ReadsCheckpoint : ℕ → List ℕ → CheckpointInfo → CheckpointInfo → Type 0
ReadsCheckpoint code text before after =
    ((code ≡ 0) × ((origin : List ℕ) × IsCheckpointOf origin (tree_of after.tree_size after.root) text × (after.origin_length ≡ length origin)))
    ⊎ (((code ≡ 96) × IsNoCheckpoint text × (after ≡ before)) ⊎ ((code ≡ 8) × (after ≡ before)))

-- The bytes under the cosignature are written, as WritesOutput says (C2SP tlog-cosignature). 145: the text is not UTF-8. 8: an allocation was refused. Nothing else
-- is written then.
abbrev pub WritesMessage : ℕ → List ℕ → ℕ → List ℕ → List ℕ → ℕ → ℕ → Type 0
WritesMessage time text code before after count_before count =
    (IsUtf8 text × WritesOutput (cosignature_message time text) code before after count)
    ⊎ (((code ≡ 145) × (IsUtf8 text → ⊥) × (after ≡ before) × (count ≡ count_before))
    ⊎ ((code ≡ 8) × (after ≡ before) × (count ≡ count_before)))

-- The number by which a note's signature names its key (C2SP signed-note): the first 4 bytes of the hash of the key's name, a line end, the byte of its algorithm
-- and the public key. H is any hash function on byte lists.
abbrev pub note_key_id : (List ℕ → List ℕ) → List ℕ → ℕ → List ℕ → List ℕ
note_key_id H name algorithm key = take 4 (H (name ++ (10 ∷ (algorithm ∷ key))))
