-- The JSON value of a line, and bytes as JSON values.
use Rattle.std.specs.Prelude.{ℕ, List, length, map, Option, None, nat_le, ◌&&◌, if◌then◌else◌}
use Rattle.std.specs.Str.{is_utf8}
use Rattle.serde_json.specs.Data.{Data, number, unsigned, string, array}
use Rattle.serde_json.specs.Read.{read}
use Rattle.serde_json.specs.View.{items_of}
use Rattle.base64.specs.Engines.{standard}
use Rattle.base64.specs.GeneralPurpose.{encode_of}

-- The JSON value of a line, as `serde_json` reads it, if the line has at most `longest` bytes and is UTF-8 (RFC 8259; docs/LINES.md).
unfoldable pub value_of_line : ℕ → List ℕ → Option Data
value_of_line longest line = if nat_le (length line) longest && is_utf8 line then read line else None

-- bytes as base64 with padding (RFC 4648, section 4)
unfoldable pub base64_text : List ℕ → List ℕ
base64_text bytes = encode_of standard bytes

-- a number as a JSON value
abbrev pub number_data : ℕ → Data
number_data n = number (unsigned n)

-- bytes as a JSON string of base64 with padding (RFC 4648, section 4)
abbrev pub bytes_data : List ℕ → Data
bytes_data b = string (base64_text b)

-- hashes as a JSON array of strings of base64 (RFC 4648, section 4)
abbrev pub hashes_data : List (List ℕ) → Data
hashes_data hs = array (items_of (map bytes_data hs))
