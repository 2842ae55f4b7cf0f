-- The closing of a log.
use Rattle.std.specs.Prelude.{All, ◌≡◌, ◌≢◌, ◌⊎◌, ◌<◌, ◌≤◌, ℕ, List, [], ◌∷◌, ◌++◌, Some, None}
use Rattle.ct_codec.specs.declared.refusal.Refusal.{Refusal}
use Rattle.ct_codec.specs.declared.refusal.Refusal.TheVariants.{ClockBack, Memory}
use Rattle.ct_tree.specs.declared.head.Head.{Head}
use Rattle.ct_lines.specs.declared.run_fault.Fault.{Fault}
use Rattle.ct_lines.specs.declared.run_fault.Fault.TheVariants as fault
use Rattle.ct_core.specs.Settlement.{Log, IsFinal}
use Rattle.ct_core.specs.Leaf.{Entry}
use Rattle.ct_core.specs.Core.{Begins, CoreState, Extends, IsCovered, clock_of, last_moment}
use Rattle.ct_house.specs.House.{HouseState, FrontView, FinalState, IsAllSettled, accepted_lists}

-- the clock refuses to close the log at now: the clock is later, or the last head is not older
abbrev pub IsLate : CoreState → ℕ → Type 0
IsLate core now = (now < clock_of core) ⊎ (now ≤ last_moment core.published.heads)

-- The house is the same and shut, and everything that the fronts with these ends had accepted is settled. h is its last head, after those
-- that it had: h has the timestamp now, which the clock accepts, and covers everything.
pub record IsReady (old : HouseState) (ends : List FrontView) (now : ℕ) (h : Head) (new : HouseState) : Type 0 where
  pub house : new.house ≡ old.house
  pub shut : new.accepted ≢ None
  pub settled : IsAllSettled new ends
  pub covered : IsCovered new.core
  pub heads : new.core.published.heads ≡ old.core.published.heads ++ h ∷ []
  pub moment : h.timestamp ≡ now
  pub in_time : IsLate old.core now → ⊥

-- the refusal is the clock's, because now is too early, or memory's
abbrev pub IsRefusedAtClosing : HouseState → ℕ → Refusal → Type 0
IsRefusedAtClosing s now e = ((e ≡ ClockBack) × IsLate s.core now) ⊎ (e ≡ Memory)

-- the entries continue with leaves that have the timestamp now
abbrev pub EntersAt : ℕ → List Entry → List Entry → Type 0
EntersAt now old new = (late : List Entry) × (new ≡ old ++ late) × All (λ (e : Entry). e.timestamp ≡ now) late

-- The log continues what this sequencer had published and settled:
--
-- - Its heads are those published so far, and one more with the timestamp now.
-- - Its entries are those settled so far, followed by leaves with the timestamp now.
-- - Its settlement begins with the one so far.
pub record EndsAt (s : HouseState) (now : ℕ) (log : Log) : Type 0 where
  pub last : Head
  pub moment : last.timestamp ≡ now
  pub heads : log.heads ≡ s.core.published.heads ++ last ∷ []
  pub entries : EntersAt now s.core.entries log.entries
  pub settlement : Begins s.core.settlement log.settlement

-- a fault of the closing at now: the clock's, because now is too early, or memory's
abbrev pub IsClosingFault : CoreState → ℕ → Fault → Type 0
IsClosingFault core now f = ((f ≡ fault.ClockBack) × IsLate core now) ⊎ (f ≡ fault.Memory)

-- all settled items remain, in their order, and the entries added after them have the timestamp now
abbrev pub KeepsSettled : ℕ → CoreState → CoreState → Type 0
KeepsSettled now old new = EntersAt now old.entries new.entries × Begins old.settlement new.settlement

-- a shutdown remains, with its count
abbrev pub KeepsCount : HouseState → HouseState → Type 0
KeepsCount old new = (n : ℕ) → old.accepted ≡ Some n → new.accepted ≡ Some n

-- The result of closing a house with these fronts at now. The log is final for the items that they accepted, and continues the sequencer's.
-- The clock accepts now. No front was shown another log: each state that a front has seen is a prefix of the log. If the sequencer was shut
-- before, its shutdown's count is the number of accepted submissions.
pub record Closes (s : HouseState) (fronts : List FrontView) (now : ℕ) (left : FinalState) : Type 0 where
  pub final : IsFinal (accepted_lists fronts) left.accepted left.log
  pub counted : (n : ℕ) → s.accepted ≡ Some n → left.accepted ≡ n
  pub in_time : IsLate s.core now → ⊥
  pub ends : EndsAt s now left.log
  pub seen : All (λ (f : FrontView). Extends f.sight.seen left.log) fronts
