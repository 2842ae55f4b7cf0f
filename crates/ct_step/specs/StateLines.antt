-- The state of a tiled log as a line of text.
use Rattle.std.specs.Prelude.{◌≡◌, ℕ, ◌<◌, ◌^◌, List, ◌++◌, length, codes, All}
use Rattle.hex.specs.Hex.{encode_lower}
use Rattle.ct_codec.specs.Bytes.{num}
use Rattle.ct_step.specs.declared.line.StateLine.{StateLine}

-- 32 bytes
abbrev pub IsDigest : List ℕ → Type 0
IsDigest d = (length d ≡ 32) × All (λ b. b < 256) d

-- the numbers of a line have 64 bits (`size`, `moment`), and its digests 32 bytes (`root`, `bundle`, `data_tile`, `before`)
pub record IsStateLine (line : StateLine) : Type 0 where
  pub size : line.tree_size < 2 ^ 64
  pub moment : line.timestamp < 2 ^ 64
  pub root : IsDigest line.root
  pub bundle : IsDigest line.bundle
  pub data_tile : IsDigest line.data_tile
  pub before : IsDigest line.before

-- the fields of a line, one after the other, the two numbers in eight bytes each, the highest first: 144 bytes
abbrev pub state_line_bytes : StateLine → List ℕ
state_line_bytes line =
    num 8 line.tree_size ++ (num 8 line.timestamp ++ (line.root ++ (line.bundle ++ (line.data_tile ++ line.before))))

-- the text of a line: the word growth, a space, and the fields in hexadecimal, two digits for each byte, in lower case
abbrev pub state_line_text : StateLine → List ℕ
state_line_text line = codes "growth " ++ encode_lower (state_line_bytes line)

-- the bytes are the text of no line
abbrev pub NoStateLine : List ℕ → Type 0
NoStateLine text = (line : StateLine) → IsStateLine line → state_line_text line ≡ text → ⊥

-- two lines that have the same text are the same
abbrev pub StateLinesDiffer : Type 0
StateLinesDiffer = (a b : StateLine) → IsStateLine a → IsStateLine b → state_line_text a ≡ state_line_text b → a ≡ b

-- a line's text has 295 bytes, and none of them is 10, which ends a line
abbrev pub StateLinesAreLines : Type 0
StateLinesAreLines = (a : StateLine) → IsStateLine a → (length (state_line_text a) ≡ 295) × All (λ b. b ≡ 10 → ⊥) (state_line_text a)
