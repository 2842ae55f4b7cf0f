-- Laws of the lines' values.
use Rattle.std.specs.Prelude.{◌≡◌, ◌↔◌, ℕ, List, Some}
use Rattle.base64.specs.GeneralPurpose.{IsBytes}
use Rattle.json_lines.specs.Fields.{bytes_of}
use Rattle.json_lines.specs.Values.{base64_text}

-- A text is read as some bytes if and only if it is the text that is written for them.
abbrev pub BytesReadBack : Type 0
BytesReadBack = (text b : List ℕ) → IsBytes text → IsBytes b → (bytes_of text ≡ Some b) ↔ (text ≡ base64_text b)
