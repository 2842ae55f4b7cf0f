-- The bytes under a cosignature (C2SP tlog-cosignature).
use Rattle.std.specs.Prelude.{◌≡◌, ◌<◌, ◌^◌, ◌++◌, ◌∷◌, ℕ, List, codes, decimal}
use Rattle.ct_checkpoint.specs.Checkpoint.{IsCheckpoint}

-- the bytes under a cosignature of a checkpoint's text: a line with the version, a line with the timestamp in seconds since 1970 in decimal
-- without leading zeros, and the text
unfoldable pub cosignature_message : ℕ → List ℕ → List ℕ
cosignature_message seconds text = codes "cosignature/v1\ntime " ++ (decimal seconds ++ (10 ∷ text))

-- a message determines its timestamp and its text
abbrev pub MessagesDiffer : Type 0
MessagesDiffer =
    (m n : ℕ) (s t : List ℕ) → m < 2 ^ 64 → n < 2 ^ 64 → cosignature_message m s ≡ cosignature_message n t → (m ≡ n) × (s ≡ t)

-- a checkpoint's text determines its origin, its size and its root
abbrev pub CheckpointsDiffer : Type 0
CheckpointsDiffer =
    (a b : List ℕ) (m n : ℕ) (r s text : List ℕ) → IsCheckpoint a m r text → IsCheckpoint b n s text → (a ≡ b) × (m ≡ n) × (r ≡ s)

-- no message is the text of a checkpoint without extension lines
abbrev pub MessageIsNoCheckpoint : Type 0
MessageIsNoCheckpoint =
    (m n : ℕ) (s origin root : List ℕ) → IsCheckpoint origin n root (cosignature_message m s) → ⊥
