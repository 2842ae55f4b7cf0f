-- The progress of serving within the input.
use Rattle.std.specs.Prelude.{◌≡◌, ◌≢◌, ◌<◌, ◌+◌, ℕ, List, [], ◌++◌, All, length, take, Option}
use Rattle.std.specs.List.{concat}
use Rattle.std.specs.Io.BufRead.{strip_last}
use Rattle.std.specs.Io.KnownBytes.{Appends}
use Rattle.ct_lines.specs.declared.fault.ServeFault.{ServeFault}
use Rattle.ct_lines.specs.declared.fault.ServeFault.TheVariants.{Read, Write, Memory, Endless}
use Rattle.ct_lines.specs.Frozen.{replies}
use Rattle.json_lines.specs.Lines.{lines_behind}
use Rattle.ct_lines.specs.Serving.{count_in, ended, IsShort}

-- the kept part of the current line, none of whose bytes ends it
abbrev pub StandsFor : List ℕ → List ℕ → Type 0
StandsFor kept line = (kept ≡ take 1048578 line) × All (λ x. x ≢ 10) line

-- the kept part of a line that ended, with its end byte or without
abbrev pub EndsAs : List ℕ → List ℕ → Type 0
EndsAs kept line = strip_last 10 kept ≡ take 1048578 line

-- after `line`, a piece of the input gets these replies, and leaves `line2` as the current line
pub record ServesPiece (reply : List ℕ → List ℕ) (line piece : List ℕ) (texts : List (List ℕ)) (line2 : List ℕ) : Type 0 where
  pub goes_on : (more : List ℕ) → replies reply (lines_behind line (piece ++ more)) ≡ texts ++ replies reply (lines_behind line2 more)
  pub ends_on : (more : List ℕ) → replies reply (ended line (piece ++ more)) ≡ texts ++ replies reply (ended line2 more)

-- how serving stops before `texts`: memory is refused before any byte of one is written, and a writer fails at one
abbrev pub StopsBefore : ServeFault → List ℕ → List (List ℕ) → Type 0
StopsBefore (Read k) next texts = ⊥
StopsBefore (Write k) next texts = 0 < length texts
StopsBefore (Memory k) next texts = next ≡ []
StopsBefore (Endless k) next texts = ⊥

-- after `line`, a piece of the input gets these replies and later ones; `next` is at most a proper prefix of the first later one
pub record IsStopped (reply : List ℕ → List ℕ) (line piece : List ℕ) (texts : List (List ℕ)) (next : List ℕ) (fault : ServeFault) : Type 0 where
  pub later : List (List ℕ)
  pub order : replies reply (lines_behind line piece) ≡ texts ++ later
  pub short : IsShort next later
  pub why : StopsBefore fault next later

-- a piece was served after `line`: its replies are written and counted, and `kept` is the kept part of the line that it leaves
pub record Goes (reply : List ℕ → List ℕ) (old new : Option (List ℕ)) (kept : List ℕ) (count n : ℕ) (line piece : List ℕ) : Type 0 where
  pub texts : List (List ℕ)
  pub line2 : List ℕ
  pub stands : StandsFor kept line2
  pub served : ServesPiece reply line piece texts line2
  pub written : Appends old new (concat texts)
  pub counted : n ≡ count + length texts

-- serving stopped within a piece: `texts` are written whole and counted, and then at most a proper prefix of one more
pub record StopsWithin (reply : List ℕ → List ℕ) (old new : Option (List ℕ)) (count : ℕ) (fault : ServeFault) (line piece : List ℕ) : Type 0 where
  pub texts : List (List ℕ)
  pub next : List ℕ
  pub stopped : IsStopped reply line piece texts next fault
  pub written : Appends old new (concat texts ++ next)
  pub counted : count_in fault ≡ count + length texts
