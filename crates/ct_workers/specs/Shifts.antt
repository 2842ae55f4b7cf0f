-- The work of the fronts and the operator over several shifts. A shift ends when all parties have done their tasks in it. Then each front
-- is resumed by a new holder, and the next shift starts.
use Rattle.std.specs.Prelude.{◌≡◌, ◌<◌, ◌≤◌, ◌⊎◌, ◌+◌, ℕ, List, [], ◌∷◌, ◌++◌}
use Rattle.std.specs.List.{AllZip}
use Rattle.ct_codec.specs.declared.item.Item.{Item}
use Rattle.ct_core.specs.Core.{Begins, Extends, clock_of}
use Rattle.ct_core.specs.Replies.{a_shift}
use Rattle.ct_core.specs.Settlement.{Log}
use Rattle.ct_house.specs.House.{FrontView, HouseState, SettlesMore, IsAllSettled}
use Rattle.ct_lines.specs.ReplyText.{reply_line}
use Rattle.ct_house.specs.Sights.{Moves}
use Rattle.ct_lines.specs.declared.run_fault.Fault.{Fault}
use Rattle.ct_lines.specs.declared.run_fault.Fault.TheVariants.{ClockBack, Memory}
use Rattle.ct_workers.specs.declared.party.FrontParty.{FrontParty}
use Rattle.ct_workers.specs.declared.party.House.{House}
use Rattle.ct_lines.specs.declared.plan.Shift.{Shift}
use Rattle.ct_lines.specs.declared.plan.Work.{Work}
use Rattle.ct_workers.specs.Parties.{Parties, DoesShift, IsPartyFault, all_replies, fronts_of}

-- a front's successor, after this log is published: its end of the gate is the same, with everything accepted there; it has seen the states
-- that the front had seen, and has learned of that log
pub record IsSuccessor (published : Log) (a b : FrontView) : Type 0 where
  pub intake : b.intake ≡ a.intake
  pub sight : Moves a.sight b.sight
  pub learnt : Extends published b.sight.seen

-- the front is resumed as its successor, and keeps its replies
abbrev pub Succeeds : Log → FrontParty → FrontParty → Type 0
Succeeds published a b = IsSuccessor published a.front b.front × (b.replies ≡ a.replies)

-- The shift ends at now, and the one with this number starts. Everything that the fronts had accepted is settled, each front is resumed,
-- and the operator's reply is the number.
pub record EndsShift (number now : ℕ) (a b : Parties) : Type 0 where
  pub settled : (xs : List Item) × SettlesMore a.house b.house xs now
  pub in_time : clock_of a.house.core ≤ now
  pub all : IsAllSettled b.house (fronts_of a.fronts)
  pub fronts : AllZip (Succeeds a.house.core.published) a.fronts b.fronts
  pub told : b.told ≡ a.told ++ reply_line (a_shift number)

-- these shifts are done one after the other, and each ends; `number` is the number of the shift that starts after the first of them
abbrev pub DoShifts : ℕ → Parties → List Shift → Parties → Type 0
DoShifts number a [] b = b ≡ a
DoShifts number a (s ∷ more) b = (m n : Parties) × DoesShift a s.work m × EndsShift number s.now m n × DoShifts (number + 1) n more b

-- These shifts are done, and then the last work, which leads to this sequencer and these fronts. The text is that of all replies: those of
-- each front in order, over all shifts, and then the operator's.
pub record PartiesServe (start : Parties) (shifts : List Shift) (last : Work) (sequencer : HouseState) (after : List FrontView) (text : List ℕ) : Type 0 where
  pub begun : Parties
  pub end : Parties
  pub shifted : DoShifts 1 start shifts begun
  pub ended : DoesShift begun last end
  pub house : sequencer ≡ end.house
  pub fronts : after ≡ fronts_of end.fronts
  pub replies : text ≡ all_replies end

-- the parties of a house between two shifts, or before the first
abbrev pub start_of : House → Parties
start_of h = record { house = h.sequencer; told = h.told.items; fronts = h.parties.items }

-- why a shift cannot end at now: the clock refuses the timestamp, or there is no memory
abbrev pub IsEndRefused : HouseState → ℕ → Fault → Type 0
IsEndRefused s now f = (f ≡ Memory) ⊎ ((f ≡ ClockBack) × (now < clock_of s.core))

-- the clock refuses the timestamp at which one of these shifts should end, after all shifts before it had ended and its work was done
pub record IsShiftLate (start : Parties) (shifts : List Shift) : Type 0 where
  pub done : List Shift
  pub late : Shift
  pub among : Begins (done ++ late ∷ []) shifts
  pub begun : Parties
  pub end : Parties
  pub shifts_done : DoShifts 1 start done begun
  pub work : DoesShift begun late.work end
  pub refused : late.now < clock_of end.house.core

-- a fault that ends the shifts: a fault of a party, or the clock's, which refuses the timestamp at which a shift should end
abbrev pub IsShiftFault : Parties → List Shift → Fault → Type 0
IsShiftFault start shifts f = IsPartyFault f ⊎ ((f ≡ ClockBack) × IsShiftLate start shifts)
