-- Serving that continues, and serving that stops.
use Rattle.std.specs.Prelude.{◌≡◌, ◌<◌, ◌≤◌, ◌^◌, ◌==◌, ℕ, List, [], ◌∷◌, ◌++◌, length, take, drop, Option, Some, None, Vec, if◌then◌else◌}
use Rattle.std.specs.List.{concat}
use Rattle.std.specs.Global.{Global}
use Rattle.ct_lines.specs.declared.fault.ServeFault.{ServeFault}
use Rattle.ct_lines.specs.declared.fault.ServeFault.TheVariants.{Read, Write, Memory, Endless}
use Rattle.ct_lines.specs.Frozen.{replies}
use Rattle.json_lines.specs.Lines.{lines_of}

-- the number of replies that were written whole before a fault
abbrev pub count_in : ServeFault → ℕ
count_in (Read k) = k
count_in (Write k) = k
count_in (Memory k) = k
count_in (Endless k) = k

-- nothing, or a proper prefix of the first text
abbrev pub IsShort : List ℕ → List (List ℕ) → Type 0
IsShort [] texts = Unit {0}
IsShort (b ∷ bs) [] = ⊥
IsShort (b ∷ bs) (text ∷ texts) = (length (b ∷ bs) < length text) × (b ∷ bs ≡ take (length (b ∷ bs)) text)

-- the first k texts are written whole, and then at most a proper prefix of the next
pub record IsCutOff (texts : List (List ℕ)) (written : List ℕ) (k : ℕ) : Type 0 where
  pub within : k ≤ length texts
  pub next : List ℕ
  pub order : written ≡ concat (take k texts) ++ next
  pub short : IsShort next (drop k texts)

-- the lines that end within the input, if `line` precedes it; a last line without an end byte does not count
abbrev pub ended : List ℕ → List ℕ → List (List ℕ)
ended line [] = []
ended line (b ∷ bs) = if b == 10 then line ∷ ended [] bs else ended (line ++ b ∷ []) bs

-- exactly the k replies to the lines that ended are written
abbrev pub RepliedToEnded : (List ℕ → List ℕ) → List ℕ → List ℕ → ℕ → Type 0
RepliedToEnded reply input written k = (written ≡ concat (replies reply (ended [] input))) × (k ≡ length (replies reply (ended [] input)))

-- The meaning of each fault, after `input` was read and `written` was written:
--
-- - `Read`: each line that ended has its whole reply, and nothing else is written.
-- - `Write`: some reply is not whole.
-- - `Memory`: only whole replies are written, and no other is begun.
-- - `Endless`: each line that ended has its whole reply, nothing else is written, and at least 2^50 bytes were read.
abbrev pub IsEndedBy : (List ℕ → List ℕ) → List ℕ → List ℕ → ServeFault → Type 0
IsEndedBy reply input written (Read k) = RepliedToEnded reply input written k
IsEndedBy reply input written (Write k) = k < length (replies reply (lines_of input))
IsEndedBy reply input written (Memory k) = written ≡ concat (take k (replies reply (lines_of input)))
IsEndedBy reply input written (Endless k) = RepliedToEnded reply input written k × (2 ^ 50 ≤ length input)

-- the reply to a line, or none if the line is empty
abbrev pub reply_if : (List ℕ → List ℕ) → List ℕ → List (List ℕ)
reply_if reply [] = []
reply_if reply (b ∷ bs) = reply (b ∷ bs) ∷ []

-- a text, or none
abbrev pub as_list : Option (Vec ℕ Global) → List (List ℕ)
as_list None = []
as_list (Some v) = v.items ∷ []
