-- The book of publications, and the rule that it keeps. A book has a line for each shelf. Each publication belongs to a line, and names the
-- turn at which the next one of that line is made: the key of a word that somebody holds the right to write. That right is the right to
-- make the next publication, and making it gives the right up. So nobody else adds to a line.
use Rattle.std.specs.Prelude.{◌≡◌, ℕ, ◌-◌, ◌<◌, true, List, [], length, slice_get, slice_index_or, Some}
use Rattle.logbook.specs.Pages.{Cell, Step, View, Book, Named, Nib, cell, may_make, may_write}
use Rattle.ct_core.specs.Settlement.{Log, Lawful}
use Rattle.ct_core.specs.Core.{Extends}
use Rattle.ct_house.specs.declared.publications.Publication.{Publication}

-- identifies the publications of one shelf: a line in a book that only grows
pub record Series : Type 0 where
  pub book : Book
  pub line : ℕ

-- a placeholder for when nothing is published
abbrev pub no_publication : Publication
no_publication = record { line = 0; state = record { entries = []; settlement = []; heads = [] }; turn = 0 }

-- the newest publication
abbrev pub newest : List Publication → Publication
newest all = slice_index_or all (length all - 1) no_publication

-- the list ends with that publication
abbrev pub Ends : List Publication → Publication → Type 0
Ends all p = slice_get all (length all - 1) ≡ Some p

-- nobody holds the right to write the word with that key
abbrev pub IsHome : List Cell → ℕ → Type 0
IsHome cells k = (cell cells k).1 ≡ true

-- the older state is a prefix of the newer one, which has more heads
pub record IsNewer (older newer : Log) : Type 0 where
  pub extends : Extends older newer
  pub heads : length older.heads < length newer.heads

-- The rule. Each publication's state is lawful, and newer than the earlier ones of its line. Nobody holds the right to write the book's
-- word, a word that names a line, or the word of a turn that is over.
pub record IsKept (cells : List Cell) (all : List Publication) : Type 0 where
  pub word : IsHome cells 0
  pub lawful : (i : ℕ) (p : Publication) → slice_get all i ≡ Some p → Lawful p.state
  pub newer : (i j : ℕ) (p q : Publication) → i < j → slice_get all i ≡ Some p → slice_get all j ≡ Some q → q.line ≡ p.line → IsNewer p.state q.state
  pub named : (i : ℕ) (p : Publication) → slice_get all i ≡ Some p → IsHome cells p.line
  pub over : (i j : ℕ) (p q : Publication) → i < j → slice_get all i ≡ Some p → slice_get all j ≡ Some q → q.line ≡ p.line → IsHome cells p.turn

-- the word on which all steps are made
abbrev pub head_of : Book → Named
head_of b = record { tracked = true; key = 0; book = b }

-- the pen is the right to write the word with that key
abbrev pub IsRight : Nib → ℕ → Type 0
IsRight n k = (n.right ≡ may_write) × (n.key ≡ k)

-- the result of making a right: the pen's right is `may_make`
abbrev pub MakesRight : Step Publication → View Publication ℕ → ℕ → View Publication ℕ → Type 0
MakesRight s v found w = w.1.0.right ≡ may_make

-- the result of opening a line, which the pen's word names: the new publication is the last in the book
abbrev pub OpensLine : Step Publication → View Publication ℕ → ℕ → View Publication ℕ → Type 0
OpensLine s v found w = Ends w.0 (record { line = v.1.0.key; state = s.ask.state; turn = s.ask.turn })

-- the result of adding to a line: the new publication is the last in the book, in the line of the newest one before it
abbrev pub AddsToLine : Step Publication → View Publication ℕ → ℕ → View Publication ℕ → Type 0
AddsToLine s v found w = Ends w.0 (record { line = (newest v.0).line; state = s.ask.state; turn = s.ask.turn })

-- the result of a step made with the pen of a turn: the pen is unchanged, and among the publications seen, none follows that turn's
-- publication in its line
abbrev pub HoldsTurn : Step Publication → View Publication ℕ → ℕ → View Publication ℕ → Type 0
HoldsTurn s v found w = (w.1.0 ≡ v.1.0) × ((i j : ℕ) (p q : Publication) → i < j → slice_get v.0 i ≡ Some p → slice_get v.0 j ≡ Some q → q.line ≡ p.line
    → p.turn ≡ v.1.0.key → ⊥)

-- the observed part of a book: its newest publication
pub record Reach : Type 0 where
  pub book : Book
  pub last : Publication

-- the series that an observed publication belongs to
abbrev pub series_of : Reach → Series
series_of r = record { book = r.book; line = r.last.line }

-- `here` saw less than `there`: its newest state has fewer heads
abbrev pub IsBehind : Reach → Reach → Type 0
IsBehind here there = length here.last.state.heads < length there.last.state.heads
