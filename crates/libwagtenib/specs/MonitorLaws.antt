-- The laws of many calls of the monitor, each over the state that the call before wrote.
use Rattle.std.specs.Prelude.{◌≡◌, ◌⊎◌, ◌++◌, ⊤, ℕ, List, [], ◌∷◌, take}
use Rattle.sha2.specs.Sha256.{sha256}
use Rattle.ct_monitor.specs.Heads.{IsHeadOfAll}
use Rattle.ct_monitor.specs.Watched.{Watched, nothing_seen}
use Rattle.ct_monitor.specs.WatcherState.{WatcherState}
use Rattle.ct_monitor.specs.Calls.{Handed, a_head, entries_from, a_proof, an_older}
use Rattle.ct_monitor.specs.CallLaws.{MonitorCall, CallsHandOut, IsNeverRefused}
use Rattle.ct_monitor.specs.Entries.{size_awaited}
use Rattle.ct_monitor.specs.Starts.{IsHashedForStart, known_at_start}
use Rattle.ct_monitor.specs.StateText.{IsInBytes, monitor_state_text}
use Rattle.ct_tree.specs.declared.head.Head.{Head}
use Rattle.ct_verify.specs.Hashed.{CollideAmong}
use Rattle.libwagtenib.specs.Guard.{head_of_c}
use Rattle.libwagtenib.specs.Monitor.{BeginsMonitor, StartsMonitor, Judges, JudgesPieces, verdict_code, verdict_fault, verdict_known, verdict_root}
use Rattle.libwagtenib.specs.Tiles.{pieces}
use Rattle.libwagtenib.specs.declared.monitor.EntryReport.{EntryReport}
use Rattle.libwagtenib.specs.declared.monitor.MonitorVerdict.{MonitorVerdict}

-- The answer that a call is handed, and the caller's memory before and after it: the verdict, the report on entries, the next state and its length.
pub record JudgingCall : Type 0 where
  pub handed : Handed
  pub verdict : MonitorVerdict
  pub told : MonitorVerdict
  pub report : EntryReport
  pub reported : EntryReport
  pub before : List ℕ
  pub after : List ℕ
  pub count_before : ℕ
  pub count : ℕ

-- A call over this state returned 0: of `wagtenib_monitor_head`, `wagtenib_monitor_entries`, `wagtenib_monitor_proof` or `wagtenib_monitor_older`.
abbrev pub ReturnsOver : List ℕ → Handed → JudgingCall → Type 0
ReturnsOver state (a_head head) c = Judges (a_head head) state 0 c.verdict c.told c.before c.after c.count_before c.count
ReturnsOver state (entries_from start E) c =
    (leaves lengths : List ℕ) × (E ≡ pieces lengths leaves)
    × JudgesPieces start leaves lengths state 0 c.verdict c.told c.report c.reported c.before c.after c.count_before c.count
ReturnsOver state (a_proof path) c = Judges (a_proof path) state 0 c.verdict c.told c.before c.after c.count_before c.count
ReturnsOver state (an_older head path) c = Judges (an_older head path) state 0 c.verdict c.told c.before c.after c.count_before c.count

-- the state that a call wrote
abbrev pub state_written : JudgingCall → List ℕ
state_written c = take c.count c.after

-- Calls that returned 0, each over the state that the one before wrote, the first over this one. The law does not ask which other calls were made, or which
-- calls never came back.
unfoldable pub AreJudging : List ℕ → List JudgingCall → Type 0
AreJudging state [] = ⊤
AreJudging state (c ∷ calls) = ReturnsOver state c.handed c × AreJudging (state_written c) calls

-- the state that the last of these calls wrote, or this one before any
abbrev pub last_written : List ℕ → List JudgingCall → List ℕ
last_written state [] = state
last_written state (c ∷ calls) = last_written (state_written c) calls

-- the counts of a verdict are those of the state that these bytes are: the accepted leaves, those that were read, and those that are wanted
abbrev pub CountsState : MonitorVerdict → List ℕ → Type 0
CountsState told bytes =
    (t : WatcherState) × IsInBytes t × (bytes ≡ monitor_state_text sha256 t) × (told.leaves_accepted ≡ t.sure.0) × (told.leaves_read ≡ t.all.0)
    × (told.leaves_wanted ≡ size_awaited t.waiting t.all.0)

-- the same call in the laws of ct_monitor: the log's answer, the verdict with all that it names, the state that the call gave, and its counts
pub record IsCallOf (c : JudgingCall) (d : MonitorCall) : Type 0 where
  pub handed : d.handed ≡ c.handed
  pub verdict : c.told.verdict ≡ verdict_code d.verdict
  pub fault : c.told.fault ≡ verdict_fault d.verdict
  pub known : head_of_c c.told.known ≡ verdict_known d.verdict
  pub root : c.told.root ≡ verdict_root d.verdict
  pub after : d.after ≡ state_written c
  pub counts : CountsState c.told d.after

-- the same, call by call
abbrev pub AreCallsOf : List JudgingCall → List MonitorCall → Type 0
AreCallsOf [] [] = ⊤
AreCallsOf (c ∷ calls) (d ∷ others) = IsCallOf c d × AreCallsOf calls others
AreCallsOf calls others = ⊥

-- Take any such calls, the first over the state that a call of `wagtenib_monitor_begin` wrote. The log has handed out w by them, one after the other. Each head
-- with the verdict 128 is that of a beginning of the accepted leaves of w, and so is each older head with the verdict 137 beside an accepted head that has more
-- leaves, or two named strings collide. The last state is never refused.
abbrev pub JudgingCallsAgree : Type 0
JudgingCallsAgree =
    (before after : List ℕ) (count_before count : ℕ) → BeginsMonitor 0 before after count_before count → (calls : List JudgingCall) → AreJudging (take count after) calls
    → (w : Watched) × (others : List MonitorCall) × AreCallsOf calls others × CallsHandOut sha256 (take count after) others nothing_seen w
    × IsNeverRefused sha256 (last_written (take count after) calls)

-- The same over the state that a call of `wagtenib_monitor_start` wrote. Let the head that the caller trusts be that of the leaves D. Then the leaves of w that are
-- accepted begin with D; or two of the strings collide that are hashed when the start's subtrees are joined, and when those of D are. Nothing is said of a head
-- that is the head of no leaves.
abbrev pub StartedCallsAgree : Type 0
StartedCallsAgree =
    (head : Head) (subtrees : List (List ℕ)) (before after : List ℕ) (count_before count : ℕ) → StartsMonitor head subtrees 0 before after count_before count
    → (calls : List JudgingCall) → AreJudging (take count after) calls → (D : List (List ℕ)) → IsHeadOfAll sha256 D head
    → ((w : Watched) × (Y : List (List ℕ)) × (w.sure ≡ D ++ Y) × (others : List MonitorCall) × AreCallsOf calls others
    × CallsHandOut sha256 (take count after) others (known_at_start head D) w × IsNeverRefused sha256 (last_written (take count after) calls))
    ⊎ CollideAmong sha256 (IsHashedForStart sha256 subtrees D)
