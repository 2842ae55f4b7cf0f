-- The lines of an input, and the next of them.
use Rattle.std.specs.Prelude.{◌≡◌, ◌≢◌, ◌<◌, ◌≤◌, ◌-◌, ℕ, Bool, true, false, List, [], ◌∷◌, ◌++◌, ◌==◌, if◌then◌else◌, All, length, slice_index, take, Option, Some, Result, Ok, IfSome, OnSome}
use Rattle.std.specs.Io.{StopsAt, IsEmptyOrEndsWith}
use Rattle.std.specs.Io.KnownBytes.{Consumes, IsAtEnd}
use Rattle.std.specs.Io.BufRead.{drop_through, strip_last, take_through}

-- the last line, which ends with the input: if the input ends after an end of line, there is no further line
abbrev pub last_line : List ℕ → List (List ℕ)
last_line [] = []
last_line (b ∷ bs) = (b ∷ bs) ∷ []

-- the lines of an input that follows the bytes `line`
abbrev pub lines_behind : List ℕ → List ℕ → List (List ℕ)
lines_behind line [] = last_line line
lines_behind line (b ∷ bs) = if b == 10 then line ∷ lines_behind [] bs else lines_behind (line ++ b ∷ []) bs

-- the lines of an input: each ends at the byte 0A, and the last may end with the input
abbrev pub lines_of : List ℕ → List (List ℕ)
lines_of input = lines_behind [] input

-- The kept part of the first line of xs, without its end: all of it, or the first `most` bytes if the line has more than `most` bytes with
-- its end.
abbrev pub kept_line : ℕ → List ℕ → List ℕ
kept_line most xs = strip_last 10 (take most (take_through 10 xs))

-- The line is the kept part, at most `most` bytes, of the first line of the bytes that were left. The first line ends with the byte 0A or
-- with the input. Afterwards left_next is left, the bytes after that line.
abbrev pub IsFirstLine : ℕ → Option (List ℕ) → Option (List ℕ) → List ℕ → Type 0
IsFirstLine most left left_next line =
    IfSome left (λ xs. (0 < length xs) × (line ≡ kept_line most xs) × (left_next ≡ Some (drop_through 10 xs)))

-- the next line was taken (true), or none was left
abbrev pub TakesNext : ℕ → Option (List ℕ) → Option (List ℕ) → List ℕ → Bool → Type 0
TakesNext most left left_then line true = IsFirstLine most left left_then line
TakesNext most left left_then line false = IfSome left (λ xs. (xs ≡ []) × (left_then ≡ Some []))

-- some bytes of a line that did not end were taken, from left to left_then, and the first `most` of them are kept
abbrev pub IsKeptOf : ℕ → Option (List ℕ) → Option (List ℕ) → List ℕ → Type 0
IsKeptOf most left left_then kept = (bs : List ℕ) × Consumes left left_then bs × All (λ x. x ≢ 10) bs × (kept ≡ take most bs)

-- Bytes are cut after the first `end` of them, and `end` is 0 only if there are no bytes. If the line ended, the cut is after the first
-- byte 0A; otherwise no byte before the cut is 0A.
pub record IsPiece (bytes : List ℕ) (end : ℕ) (is_ended : Bool) : Type 0 where
  pub within : end ≤ length bytes
  pub some : 0 < length bytes → 0 < end
  pub before : All (λ x. x ≢ 10) (take (end - 1) bytes)
  pub ends : is_ended ≡ true → (0 < end) × (slice_index bytes (end - 1) ≡ 10)
  pub goes_on : is_ended ≡ false → All (λ x. x ≢ 10) (take end bytes)

-- Some bytes were taken, from left to left_then; they have the byte 0A at their end or nowhere. They are kept after the bytes that were
-- kept before (line), as far as there is room for `most` bytes (line_then). If the line is complete (r), they end at that byte, or none was
-- left.
pub record TakesPiece {E : Type 0} (most : ℕ) (left left_then : Option (List ℕ)) (line line_then : List ℕ) (r : Result Bool E) : Type 0 where
  pub bytes : List ℕ
  pub taken : Consumes left left_then bytes
  pub kept : line_then ≡ take most (line ++ bytes)
  pub stops : StopsAt bytes 10
  pub goes_on : r ≢ Ok true → All (λ x. x ≢ 10) bytes
  pub ends : r ≡ Ok true → IsEmptyOrEndsWith bytes 10
  pub at_end : r ≡ Ok true → length bytes ≡ 0 → OnSome left (IsAtEnd left_then)

-- the first line was taken with its end, from left to left_then, and the first `most` of these bytes are kept
abbrev pub TakesFirstLine : ℕ → Option (List ℕ) → Option (List ℕ) → List ℕ → Type 0
TakesFirstLine most left left_then kept = IfSome left (λ xs. (kept ≡ take most (take_through 10 xs)) × (left_then ≡ Some (drop_through 10 xs)))
