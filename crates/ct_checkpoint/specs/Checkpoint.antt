-- The text of a checkpoint (C2SP tlog-checkpoint, "Note text").
use Rattle.std.specs.Prelude.{◌≡◌, ◌≢◌, ◌⊎◌, ◌<◌, ◌^◌, ◌++◌, ◌∷◌, [], ℕ, List, All, decimal, length}
use Rattle.std.specs.Str.Parse.{IsNumeral, digits_value, without_leading_plus}
use Rattle.base64.specs.Engines.{standard}
use Rattle.base64.specs.GeneralPurpose.{IsBytes, encode_of}
use Rattle.base64.specs.declared.decode.DecodeAllocError.{DecodeAllocError}
use Rattle.base64.specs.declared.decode.DecodeAllocError.TheVariants.{DecodeError as Failed, OutOfMemory}
use Rattle.ct_checkpoint.specs.declared.fault.CheckpointFault.{CheckpointFault}
use Rattle.ct_checkpoint.specs.declared.fault.CheckpointFault.TheVariants.{BadOrigin, BadSize, BadRoot, NotAsWritten, Memory}

-- the text of a checkpoint without extension lines: the origin, the tree's size in decimal without leading zeros, and its root as base64
-- with padding (RFC 4648, section 4), each with its line end, the byte 0A
unfoldable pub checkpoint_text : List ℕ → ℕ → List ℕ → List ℕ
checkpoint_text origin size root = origin ++ (10 ∷ (decimal size ++ (10 ∷ (encode_of standard root ++ (10 ∷ [])))))

-- none of the bytes is a line end
abbrev pub IsWithinLine : List ℕ → Type 0
IsWithinLine bytes = All (λ b. b ≢ 10) bytes

-- a tree's root: 32 bytes
abbrev pub IsRootOfTree : List ℕ → Type 0
IsRootOfTree root = (length root ≡ 32) × IsBytes root

-- The text is that of a checkpoint with this origin, size and root:
-- - the origin is not empty (named) and is one line (line),
-- - the size is below 2^64 (size),
-- - the root has 32 bytes (root),
-- - and the text is the one that is written for them (text_is).
pub record IsCheckpoint (origin : List ℕ) (tree_size : ℕ) (tree_root text : List ℕ) : Type 0 where
  pub named : 0 < length origin
  pub line : IsWithinLine origin
  pub size : tree_size < 2 ^ 64
  pub root : IsRootOfTree tree_root
  pub text_is : text ≡ checkpoint_text origin tree_size tree_root

-- the checkpoint fault for a failure to decode: the text is not base64, or memory was refused
abbrev pub of_decoding : DecodeAllocError → CheckpointFault
of_decoding (Failed why) = BadRoot
of_decoding OutOfMemory = Memory

-- the text is read as this number, below 2^64: digits, with an optional plus before them
abbrev pub IsNumber : ℕ → List ℕ → Type 0
IsNumber n text = IsNumeral 10 (without_leading_plus text) × (digits_value 10 (without_leading_plus text) ≡ n) × (n < 2 ^ 64)

-- the text's first line, which is not empty, and the text after its end
abbrev pub IsOriginOf : List ℕ → List ℕ → List ℕ → Type 0
IsOriginOf text origin rest = (0 < length origin) × IsWithinLine origin × (text ≡ origin ++ (10 ∷ rest))

-- after the origin there is no line that is a number: there is no line end, or the line is not a number
abbrev pub HasNoSize : List ℕ → Type 0
HasNoSize rest =
    IsWithinLine rest ⊎ ((line : List ℕ) × (behind : List ℕ) × IsWithinLine line × (rest ≡ line ++ (10 ∷ behind)) × ((n : ℕ) → IsNumber n line → ⊥))

-- after the origin there is a line that is this number, and `behind` follows its end
abbrev pub HasSize : List ℕ → ℕ → List ℕ → Type 0
HasSize rest n behind = (line : List ℕ) × IsWithinLine line × (rest ≡ line ++ (10 ∷ behind)) × IsNumber n line

-- Why a text is not a checkpoint's, the first fault from the left.
-- - BadOrigin: it has no line end, or begins with one.
-- - BadSize: after an origin there is no line that is a number.
-- - BadRoot: the text after both is not a root's base64 followed by one byte.
-- - NotAsWritten: that text is such a base64 with one more byte, and the whole text is not the one that is written for the three. So the
--   size begins with a plus or a superfluous zero, or the last byte is not a line end.
-- - Memory: memory may be refused only after an origin and a number.
abbrev pub IsCheckpointFault : CheckpointFault → List ℕ → Type 0
IsCheckpointFault BadOrigin text = IsWithinLine text ⊎ ((rest : List ℕ) × (text ≡ 10 ∷ rest))
IsCheckpointFault BadSize text = (origin : List ℕ) × (rest : List ℕ) × IsOriginOf text origin rest × HasNoSize rest
IsCheckpointFault BadRoot text =
    (origin : List ℕ) × (rest : List ℕ) × (n : ℕ) × (behind : List ℕ) × IsOriginOf text origin rest × HasSize rest n behind
    × ((root : List ℕ) (last : ℕ) → IsRootOfTree root → behind ≡ encode_of standard root ++ (last ∷ []) → ⊥)
IsCheckpointFault NotAsWritten text =
    (origin : List ℕ) × (rest : List ℕ) × (n : ℕ) × (behind : List ℕ) × IsOriginOf text origin rest × HasSize rest n behind
    × (root : List ℕ) × (last : ℕ) × IsRootOfTree root × (behind ≡ encode_of standard root ++ (last ∷ [])) × (text ≢ checkpoint_text origin n root)
IsCheckpointFault Memory text =
    (origin : List ℕ) × (rest : List ℕ) × (n : ℕ) × (behind : List ℕ) × IsOriginOf text origin rest × HasSize rest n behind
