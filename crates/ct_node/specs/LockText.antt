-- The text that a log's lock holds, and the names of staged batches. Both identify states.
--
-- A text has three lines: a state's line; `node` and the address of the node that set it; `salt` and 32 digits. The first 16 of these are
-- the timestamp of the state that it was made from, and the last 16 are a random number. If the first 16 are not a timestamp before the
-- state's, they count as 0.
use Rattle.std.specs.Prelude.{ℕ, ◌-◌, List, [], ◌∷◌, ◌++◌, length, take, drop, codes, bytes_eq, nat_le, nat_lt, ◌==◌, ◌&&◌, Bool}
use Rattle.std.specs.Prelude.{Option, Some, None, option_map, option_and_then, Result, Ok, Err, if◌then◌else◌}
use Rattle.std.specs.Int.{w64, from_be_bytes}
use Rattle.hex.specs.Hex.{encode_lower, decode_sized}
use Rattle.hex.specs.declared.error.FromHexError.{FromHexError}
use Rattle.ct_codec.specs.Bytes.{num}
use Rattle.ct_node.specs.declared.state.State.{State}
use Rattle.ct_node.specs.declared.lock_reading.Said.{Said}

-- the number that eight bytes represent, the highest first, if they were decoded
abbrev pub decoded_number : Result (List ℕ) FromHexError → Option ℕ
decoded_number (Ok bytes) = Some (from_be_bytes w64 bytes)
decoded_number (Err e) = None

-- the number that a text of 16 hexadecimal digits writes, the highest first
unfoldable pub digits_number : List ℕ → Option ℕ
digits_number text = decoded_number (decode_sized text 8)

-- a number as 16 digits in hexadecimal, in lower case, the highest first
abbrev pub number_digits : ℕ → List ℕ
number_digits n = encode_lower (num 8 n)

-- the number whose 16 digits begin at this offset of a text
abbrev pub number_from : ℕ → List ℕ → Option ℕ
number_from from text = digits_number (take 16 (drop from text))

-- a text has a word at this offset
abbrev pub has_word : ℕ → List ℕ → List ℕ → Bool
has_word from word text = bytes_eq (take (length word) (drop from text)) word

-- a lock's text of at least 340 bytes has its words at their offsets
abbrev pub has_words : List ℕ → Bool
has_words text =
    has_word 0 (codes "growth ") text
    && (has_word 295 (10 ∷ codes "node ") text
    && (has_word (length text - 39) (10 ∷ codes "salt ") text && has_word (length text - 1) (10 ∷ []) text))

-- the timestamp of the state before, or 0 if these digits are not a timestamp before the state's
abbrev pub moment_before : ℕ → ℕ → ℕ
moment_before digits moment = if nat_lt digits moment then digits else 0

-- a state of a log with this number of entries
abbrev pub said_of : ℕ → ℕ → ℕ → ℕ → Said
said_of n m b s = record { size = n; state = record { moment = m; before = moment_before b m; salt = s } }

-- the content of a lock's text, read from its numbers
abbrev pub numbers_said : List ℕ → Option Said
numbers_said text =
    option_and_then (λ n. option_and_then (λ m. option_and_then (λ b. option_map (λ s. said_of n m b s) (number_from (length text - 17) text))
    (number_from (length text - 33) text)) (number_from 23 text)) (number_from 7 text)

-- the content of a lock's text: the number of entries, and the state
abbrev pub text_said : List ℕ → Option Said
text_said text = if nat_lt (length text) 340 then None else (if has_words text then numbers_said text else None)

-- the state of a lock's text
abbrev pub text_state : List ℕ → Option State
text_state text = option_map (λ said. said.state) (text_said text)

-- a lock's text has this root, in 64 digits
abbrev pub says_root : List ℕ → List ℕ → Bool
says_root text root = nat_le 103 (length text) && has_word 39 (encode_lower root) text

-- The lock's text for a state's line, which this node set in place of a state with this timestamp. The salt is a random number.
abbrev pub next_text : List ℕ → List ℕ → ℕ → ℕ → List ℕ
next_text line node before salt =
    line ++ (10 ∷ codes "node ") ++ node ++ (10 ∷ codes "salt ") ++ number_digits before ++ number_digits salt ++ 10 ∷ []

-- the name of a state's staged batch, which has the state's three numbers
abbrev pub bundle_name : State → List ℕ
bundle_name s = codes "staging/" ++ number_digits s.moment ++ number_digits s.before ++ number_digits s.salt

-- the state whose numbers these are
abbrev pub numbers_state : List ℕ → Option State
numbers_state name =
    option_and_then (λ m. option_and_then (λ b. option_map (λ s. record { moment = m; before = b; salt = s }) (number_from 40 name))
    (number_from 24 name)) (number_from 8 name)

-- this state, if its staged batch has this name
abbrev pub if_named : List ℕ → State → Option State
if_named name s = if bytes_eq (bundle_name s) name then Some s else None

-- the state whose staged batch has this name: it has the three numbers that the name writes, in lower case
abbrev pub name_state : List ℕ → Option State
name_state name = if length name == 56 then option_and_then (if_named name) (numbers_state name) else None
