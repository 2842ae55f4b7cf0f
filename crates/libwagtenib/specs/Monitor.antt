-- The codes and the bytes that a call of the monitor returns and writes.
use Rattle.std.specs.Prelude.{◌≡◌, ◌⊎◌, ◌≤◌, ℕ, List, length, replicate, sum, Option, Some, None}
use Rattle.sha2.specs.Sha256.{sha256}
use Rattle.ct_monitor.specs.declared.verdict.Verdict.{Verdict}
use Rattle.ct_monitor.specs.declared.verdict.Verdict.TheVariants.{Accepted, Pending, Again, Older, Shrunk, Fork, TimeNotLater, RootMismatch, Gap, Consistent, Inconsistent}
use Rattle.ct_codec.specs.declared.fault.DecodeFault.{DecodeFault}
use Rattle.ct_monitor.specs.Entries.{HasTimestamp, IsFaulty, IsLaterThan}
use Rattle.ct_monitor.specs.Calls.{Handed, entries_from, IsMonitorAnswer, IsEntriesAnswer, IsMonitorBegin}
use Rattle.ct_monitor.specs.StateText.{IsNoState}
use Rattle.ct_monitor.specs.Verdicts.{IsBeside, IsGrownLater}
use Rattle.ct_monitor.specs.Starts.{IsMonitorStart, RefusesStart}
use Rattle.ct_monitor.specs.declared.answer.Answer.{Answer}
use Rattle.ct_monitor.specs.declared.answer.EntriesAnswer.{EntriesAnswer}
use Rattle.ct_monitor.specs.declared.entries.LaterEntry.{LaterEntry}
use Rattle.ct_monitor.specs.declared.entries.FaultyEntry.{FaultyEntry}
use Rattle.ct_monitor.specs.declared.starting.StartFault.{StartFault}
use Rattle.ct_monitor.specs.declared.starting.StartFault.TheVariants.{OtherCount, OtherRoot, Memory}
use Rattle.ct_tree.specs.declared.head.Head.{Head}
use Rattle.libwagtenib.specs.Codes.{leaf_code, proof_code}
use Rattle.libwagtenib.specs.Guard.{head_of_c}
use Rattle.libwagtenib.specs.Output.{WritesOutput}
use Rattle.libwagtenib.specs.Tiles.{pieces}
use Rattle.libwagtenib.specs.declared.monitor.EntryReport.{EntryReport}
use Rattle.libwagtenib.specs.declared.monitor.MonitorVerdict.{MonitorVerdict}

-- the number of a verdict in C; include/wagtenib.h has the same
abbrev pub verdict_code : Verdict → ℕ
verdict_code Accepted = 128
verdict_code Pending = 129
verdict_code Again = 130
verdict_code (Older known) = 131
verdict_code (Shrunk known) = 132
verdict_code (Fork known) = 133
verdict_code (TimeNotLater known) = 134
verdict_code (RootMismatch root) = 135
verdict_code Gap = 136
verdict_code Consistent = 137
verdict_code (Inconsistent fault) = 138

-- the number of the fault of an inconsistent proof; 0 of any other verdict
abbrev pub verdict_fault : Verdict → ℕ
verdict_fault (Inconsistent fault) = proof_code fault
verdict_fault v = 0

-- 32 bytes, all of them 0
abbrev pub no_root : List ℕ
no_root = replicate 32 0

-- no head: all its numbers and bytes are 0
abbrev pub no_head : Head
no_head = record { tree_size = 0; timestamp = 0; root = no_root }

-- the known head that a verdict names
abbrev pub verdict_known : Verdict → Head
verdict_known (Older known) = known
verdict_known (Shrunk known) = known
verdict_known (Fork known) = known
verdict_known (TimeNotLater known) = known
verdict_known v = no_head

-- the root that was computed from the leaves, if it is another than that of the waiting head
abbrev pub verdict_root : Verdict → List ℕ
verdict_root (RootMismatch root) = root
verdict_root v = no_root

-- a verdict and the numbers of the state after it, as callers in C have them
pub record TellsVerdict (m : MonitorVerdict) (a : Answer) : Type 0 where
  pub verdict : m.verdict ≡ verdict_code a.verdict
  pub fault : m.fault ≡ verdict_fault a.verdict
  pub known : head_of_c m.known ≡ verdict_known a.verdict
  pub root : m.root ≡ verdict_root a.verdict
  pub accepted : m.leaves_accepted ≡ a.leaves_accepted
  pub read : m.leaves_read ≡ a.leaves_read
  pub wanted : m.leaves_wanted ≡ a.leaves_wanted

-- The state of an answer is written, or has no room (9). The verdict is written only at 0.
abbrev pub GivesAnswer : Answer → ℕ → MonitorVerdict → MonitorVerdict → List ℕ → List ℕ → ℕ → Type 0
GivesAnswer a code verdict told before after count =
    WritesOutput a.state.items code before after count × (((code ≡ 0) × TellsVerdict told a) ⊎ ((code ≡ 9) × (told ≡ verdict)))

-- A call over a state. 36: the bytes are no state. 0: the verdict and the next state are written. 9: that state has no room. 8: an allocation was refused.
-- Nothing is written but at 0, and the length at 0 and 9.
abbrev pub Judges : Handed → List ℕ → ℕ → MonitorVerdict → MonitorVerdict → List ℕ → List ℕ → ℕ → ℕ → Type 0
Judges handed state code verdict told before after count_before count =
    ((code ≡ 36) × IsNoState sha256 state × (told ≡ verdict) × (after ≡ before) × (count ≡ count_before))
    ⊎ (((a : Answer) × IsMonitorAnswer sha256 state handed a × GivesAnswer a code verdict told before after count)
    ⊎ ((code ≡ 8) × (told ≡ verdict) × (after ≡ before) × (count ≡ count_before)))

-- Two heads are compared. 0: the second one has more leaves than the known one, and is later. Otherwise the number of the verdict.
abbrev pub ComparesHeads : Head → Head → ℕ → Type 0
ComparesHeads known head code =
    ((code ≡ 0) × IsGrownLater (Some known) known.timestamp head)
    ⊎ ((v : Verdict) × (code ≡ verdict_code v) × IsBeside known known.timestamp head v)

-- the first state is written, or has no room (9), or an allocation was refused (8)
abbrev pub BeginsMonitor : ℕ → List ℕ → List ℕ → ℕ → ℕ → Type 0
BeginsMonitor code before after count_before count =
    ((state : List ℕ) × IsMonitorBegin sha256 state × WritesOutput state code before after count)
    ⊎ ((code ≡ 8) × (after ≡ before) × (count ≡ count_before))

-- the number of the reason why no state begins at a head; include/wagtenib.h has the same
abbrev pub start_code : StartFault → ℕ
start_code OtherCount = 140
start_code OtherRoot = 4
start_code Memory = 8

-- the state that begins at a head is written, or has no room (9), or there is none, and nothing is written
abbrev pub StartsMonitor : Head → List (List ℕ) → ℕ → List ℕ → List ℕ → ℕ → ℕ → Type 0
StartsMonitor head subtrees code before after count_before count =
    ((state : List ℕ) × IsMonitorStart sha256 head subtrees state × WritesOutput state code before after count)
    ⊎ ((fault : StartFault) × (code ≡ start_code fault) × RefusesStart sha256 fault head subtrees × (after ≡ before) × (count ≡ count_before))

-- the index and the timestamp of an entry that is later than its head; two times 0, if none is
abbrev pub TellsLater : Option LaterEntry → ℕ → ℕ → Type 0
TellsLater None index timestamp = (index ≡ 0) × (timestamp ≡ 0)
TellsLater (Some e) index timestamp = (index ≡ e.index) × (timestamp ≡ e.timestamp)

-- the index of an entry that is no leaf, and the number of its fault; two times 0, if each is one
abbrev pub TellsFaulty : Option FaultyEntry → ℕ → ℕ → Type 0
TellsFaulty None index fault = (index ≡ 0) × (fault ≡ 0)
TellsFaulty (Some e) index fault = (index ≡ e.index) × (fault ≡ leaf_code e.fault)

-- the report on entries, as callers in C have it, with the timestamp of the head that waited
abbrev pub TellsReport : EntryReport → EntriesAnswer → Type 0
TellsReport r a =
    TellsLater a.later r.later_index r.later_timestamp × TellsFaulty a.faulty r.faulty_index r.fault × (r.head_timestamp ≡ a.head_timestamp)

-- A call with entries over a state, as `Judges`. The report on the entries is written only at 0.
abbrev pub JudgesEntries : ℕ → List (List ℕ) → List ℕ → ℕ → MonitorVerdict → MonitorVerdict → EntryReport → EntryReport → List ℕ → List ℕ → ℕ → ℕ → Type 0
JudgesEntries start leaves state code verdict told report reported before after count_before count =
    ((code ≡ 36) × IsNoState sha256 state × (told ≡ verdict) × (reported ≡ report) × (after ≡ before) × (count ≡ count_before))
    ⊎ (((a : EntriesAnswer) × IsEntriesAnswer sha256 state start leaves a × GivesAnswer a.answer code verdict told before after count
    × (((code ≡ 0) × TellsReport reported a) ⊎ ((code ≡ 9) × (reported ≡ report))))
    ⊎ ((code ≡ 8) × (told ≡ verdict) × (reported ≡ report) × (after ≡ before) × (count ≡ count_before)))

-- lengths add up to the number of these bytes
abbrev pub AddUp : List ℕ → List ℕ → Type 0
AddUp lengths leaves = sum lengths ≡ length leaves

-- A call with entries, which are pieces of bytes, over a state. 141: the lengths do not add up to the bytes, and nothing is written. Otherwise as `JudgesEntries`.
abbrev pub JudgesPieces : ℕ → List ℕ → List ℕ → List ℕ → ℕ → MonitorVerdict → MonitorVerdict → EntryReport → EntryReport → List ℕ → List ℕ → ℕ → ℕ → Type 0
JudgesPieces start leaves lengths state code verdict told report reported before after count_before count =
    ((code ≡ 141) × (AddUp lengths leaves → ⊥) × (told ≡ verdict) × (reported ≡ report) × (after ≡ before) × (count ≡ count_before))
    ⊎ (AddUp lengths leaves × JudgesEntries start (pieces lengths leaves) state code verdict told report reported before after count_before count)

-- A call with one leaf beside a head with the timestamp `moment`. 0: it is a leaf with the new timestamp, which is no later than the head's. 142: it is one, and later.
-- 17 to 22: the bytes are no leaf, this is their first fault, and nothing is written.
abbrev pub JudgesEntry : ℕ → List ℕ → ℕ → ℕ → ℕ → Type 0
JudgesEntry moment leaf code before timestamp =
    ((code ≡ 0) × HasTimestamp timestamp leaf × (timestamp ≤ moment))
    ⊎ (((code ≡ 142) × IsLaterThan moment timestamp leaf)
    ⊎ ((f : DecodeFault) × (code ≡ leaf_code f) × IsFaulty f leaf × (timestamp ≡ before)))
