-- The answers to calls of the monitor. H is any hash function on byte lists. The library's is SHA-256.
use Rattle.std.specs.Prelude.{◌≡◌, ◌⊎◌, ℕ, List, [], map, Option, Some, None}
use Rattle.ct_tree.specs.Stack.{Stands}
use Rattle.ct_tree.specs.Tree.{hash_leaf}
use Rattle.ct_tree.specs.declared.head.Head.{Head}
use Rattle.ct_monitor.specs.Heads.{IsHeadOfAll}
use Rattle.ct_monitor.specs.Watched.{Watched, waiting_or, with_more, after_head}
use Rattle.ct_monitor.specs.Verdicts.{HeadSays, EntriesSay, OlderSays, ProofSays, after_entries}
use Rattle.ct_monitor.specs.WatcherState.{WatcherState, Keeps}
use Rattle.ct_monitor.specs.declared.verdict.Verdict.{Verdict}
use Rattle.ct_monitor.specs.declared.verdict.Verdict.TheVariants.{Accepted, Gap}
use Rattle.ct_monitor.specs.Entries.{IsFirstLater, IsFirstFaulty, moment_awaited, size_awaited, leaves_to_read}
use Rattle.ct_monitor.specs.Fitting.{FitsTogether}
use Rattle.ct_monitor.specs.StateText.{IsInBytes, IsMonitorState, monitor_state_text}
use Rattle.ct_monitor.specs.declared.answer.Answer.{Answer}
use Rattle.ct_monitor.specs.declared.answer.EntriesAnswer.{EntriesAnswer}
use Rattle.ct_monitor.specs.declared.entries.LaterEntry.{LaterEntry}
use Rattle.ct_monitor.specs.declared.entries.FaultyEntry.{FaultyEntry}

-- One answer of a log: a tree head, entries from an index on, a consistency proof from the accepted head to the waiting one, or one from an
-- older head to a known one.
pub data Handed : Type 0 where
  a_head : Head → Handed
  entries_from : ℕ → List (List ℕ) → Handed
  a_proof : List (List ℕ) → Handed
  an_older : Head → List (List ℕ) → Handed

-- the verdict on the answer if the log has handed out w before, and `next` with this answer
abbrev pub HandedSays : (List ℕ → List ℕ) → Watched → Handed → Verdict → Watched → Type 0
HandedSays H w (a_head head) v next = HeadSays H w head v × (next ≡ after_head w head v)
HandedSays H w (entries_from start E) v next = EntriesSay H w w.waiting start E v × (next ≡ after_entries w w.waiting E v)
HandedSays H w (a_proof path) v next = ProofSays H w.accepted w.waiting path v × (next ≡ w)
HandedSays H w (an_older head path) v next = OlderSays H w.accepted w.waiting head path v × (next ≡ w)

-- These facts hold for any state, also for a state to which no log led. An accepted head is the head of every list of leaves that has the
-- subtrees of the state before, followed by the leaves that were read then. A proof is judged between the heads of the state, and the state
-- does not change.
abbrev pub IsComparedOver : (List ℕ → List ℕ) → WatcherState → Handed → Verdict → WatcherState → Type 0
IsComparedOver H s (a_head head) v t = v ≡ Accepted → (D : List (List ℕ)) → Stands H s.all (map (hash_leaf H) D) → IsHeadOfAll H D (waiting_or s.waiting head)
IsComparedOver H s (entries_from start E) v t = v ≡ Accepted → (head : Head) → s.waiting ≡ Some head → (D : List (List ℕ))
    → Stands H s.all (map (hash_leaf H) D) → IsHeadOfAll H (with_more D head E) head
IsComparedOver H s (a_proof path) v t = ProofSays H s.accepted s.waiting path v × (t ≡ s)
IsComparedOver H s (an_older head path) v t = OlderSays H s.accepted s.waiting head path v × (t ≡ s)

-- A state s gives this verdict on an answer, and t is the state after it. If s keeps w, the verdict is right for w, and t keeps w with this
-- answer. That holds for every such w.
abbrev pub StateJudges : (List ℕ → List ℕ) → WatcherState → Handed → Verdict → WatcherState → Type 0
StateJudges H s handed v t = ((w : Watched) → Keeps H s w → (next : Watched) × Keeps H t next × HandedSays H w handed v next) × IsComparedOver H s handed v t

-- An answer has the bytes and the numbers of the state t: the number of accepted leaves, the number of leaves that were read, and the size
-- up to which leaves are wanted. The parts of t fit, so its bytes can be read again.
pub record HasState (H : List ℕ → List ℕ) (t : WatcherState) (a : Answer) : Type 0 where
  pub numbers : IsInBytes t
  pub fits : FitsTogether H t
  pub text : a.state.items ≡ monitor_state_text H t
  pub accepted : a.leaves_accepted ≡ t.sure.0
  pub read : a.leaves_read ≡ t.all.0
  pub wanted : a.leaves_wanted ≡ size_awaited t.waiting t.all.0

-- The answer has the state t, or that of these bytes if the parts of t do not fit.
abbrev pub LeavesState : (List ℕ → List ℕ) → List ℕ → WatcherState → Answer → Type 0
LeavesState H bytes t a = HasState H t a ⊎ ((FitsTogether H t → ⊥) × ((s : WatcherState) × IsMonitorState H s bytes × HasState H s a))

-- the answer to a call over the state that these bytes encode
abbrev pub IsMonitorAnswer : (List ℕ → List ℕ) → List ℕ → Handed → Answer → Type 0
IsMonitorAnswer H bytes handed a = (s t : WatcherState) × IsMonitorState H s bytes × StateJudges H s handed a.verdict t × HasState H t a

-- of the entries E that are read over a state, the first that is later than the waiting head, and the first that is not a leaf
abbrev pub FindsEntries : WatcherState → List (List ℕ) → Option LaterEntry → Option FaultyEntry → Type 0
FindsEntries s E later faulty =
    IsFirstLater (moment_awaited s.waiting) s.all.0 (leaves_to_read s E) later × IsFirstFaulty s.all.0 (leaves_to_read s E) faulty

-- the report on entries with this verdict: nothing if they do not begin at the end of the entries that were read
abbrev pub ReportsEntries : WatcherState → List (List ℕ) → Verdict → Option LaterEntry → Option FaultyEntry → Type 0
ReportsEntries s E v later faulty =
    ((v ≡ Gap) × (later ≡ None) × (faulty ≡ None)) ⊎ ((v ≡ Gap → ⊥) × FindsEntries s E later faulty)

-- the answer to a call with entries over the state that these bytes encode; it has the timestamp of the head that waited in this state
abbrev pub IsEntriesAnswer : (List ℕ → List ℕ) → List ℕ → ℕ → List (List ℕ) → EntriesAnswer → Type 0
IsEntriesAnswer H bytes start E a =
    (s t : WatcherState) × IsMonitorState H s bytes × StateJudges H s (entries_from start E) a.answer.verdict t × HasState H t a.answer
    × ReportsEntries s E a.answer.verdict a.later a.faulty × (a.head_timestamp ≡ moment_awaited s.waiting)

-- the state of a monitor that was given nothing
abbrev pub nothing_state : WatcherState
nothing_state = record { accepted = None; waiting = None; newest = record { accepted = 0; waiting = 0 }; sure = (0, []); all = (0, []) }

-- the bytes encode this state
abbrev pub IsMonitorBegin : (List ℕ → List ℕ) → List ℕ → Type 0
IsMonitorBegin H bytes = bytes ≡ monitor_state_text H nothing_state
