-- The laws of many calls of the monitor, each over the state that the previous call returned. H is any hash function on byte lists with
-- hashes of 32 bytes. The library's is SHA-256.
use Rattle.std.specs.Prelude.{◌≡◌, ◌⊎◌, ◌<◌, ⊤, All, Contains, true, ℕ, List, [], ◌∷◌, length, take, Some, None}
use Rattle.ct_verify.specs.Hashed.{CollideAmong, IsHashedIn, proof_strings}
use Rattle.ct_verify.specs.Laws.{AreHashes}
use Rattle.ct_tree.specs.declared.head.Head.{Head}
use Rattle.ct_monitor.specs.Followed.{IsFollowing}
use Rattle.ct_monitor.specs.Heads.{IsHeadOfAll}
use Rattle.std.specs.declared.option.Option.{Option}
use Rattle.ct_monitor.specs.Watched.{Watched, leaves_read, nothing_seen}
use Rattle.ct_monitor.specs.Verdicts.{IsGrownLater}
use Rattle.ct_monitor.specs.WatcherState.{WatcherState, Keeps}
use Rattle.ct_monitor.specs.declared.verdict.Verdict.{Verdict}
use Rattle.ct_monitor.specs.declared.verdict.Verdict.TheVariants.{Accepted, Consistent}
use Rattle.ct_monitor.specs.Calls.{Handed, an_older, HandedSays, StateJudges, IsMonitorBegin}
use Rattle.ct_monitor.specs.Fitting.{FitsTogether, NewestFits}
use Rattle.ct_monitor.specs.StateText.{IsInBytes, IsMonitorState, IsNoState, monitor_state_text}

-- A call that returned an answer: the log's answer that was given to it, its verdict, and the state that it returned.
pub record MonitorCall : Type 0 where
  pub handed : Handed
  pub verdict : Verdict
  pub after : List ℕ

-- the call is made over this state, and its result is as the calls ensure
abbrev pub IsCallOver : (List ℕ → List ℕ) → List ℕ → MonitorCall → Type 0
IsCallOver H before c =
    (s t : WatcherState) × IsMonitorState H s before × StateJudges H s c.handed c.verdict t × IsInBytes t × (c.after ≡ monitor_state_text H t)

-- Calls, each over the state that the previous one returned; the first is over this state. The law holds whichever other calls were made,
-- and whichever never returned.
unfoldable pub AreCalls : (List ℕ → List ℕ) → List ℕ → List MonitorCall → Type 0
AreCalls H before [] = ⊤
AreCalls H before (c ∷ calls) = IsCallOver H before c × AreCalls H c.after calls

-- the state that the last of these calls returned, or this state if there are no calls
abbrev pub last_state : List ℕ → List MonitorCall → List ℕ
last_state before [] = before
last_state before (c ∷ calls) = last_state c.after calls

-- the log has handed out `last` after these calls, one after the other, if it had handed out w before
unfoldable pub HandOut : (List ℕ → List ℕ) → Watched → List MonitorCall → Watched → Type 0
HandOut H w [] last = last ≡ w
HandOut H w (c ∷ calls) last = (next : Watched) × HandedSays H w c.handed c.verdict next × HandOut H next calls last

-- if a call accepted a head, it is the head of the first leaves of D, and the state that the call returned has it
abbrev pub IsOfFirstLeaves : (List ℕ → List ℕ) → List (List ℕ) → MonitorCall → Type 0
IsOfFirstLeaves H D c = c.verdict ≡ Accepted
    → (head : Head) × (n : ℕ) × (t : WatcherState) × IsMonitorState H t c.after × (t.accepted ≡ Some head) × IsHeadOfAll H (take n D) head

-- the strings that are hashed when the consistency proof p of an older head to the head of n leaves is checked, and in the tree of the leaves D
abbrev pub IsHashedForOlder : (List ℕ → List ℕ) → List (List ℕ) → Head → ℕ → List (List ℕ) → List ℕ → Type 0
IsHashedForOlder H D head n p s = Contains (proof_strings H head.tree_size n true head.root p) s ⊎ IsHashedIn H D s

-- If a call found an older head consistent with the accepted head, which has more leaves, it is the head of the first leaves of D; or two
-- strings collide that are hashed when its proof is checked, or in the tree of the accepted leaves.
abbrev pub IsOlderOfFirstLeaves : (List ℕ → List ℕ) → List (List ℕ) → MonitorCall → Type 0
IsOlderOfFirstLeaves H D c = (head known : Head) (p : List (List ℕ)) (t : WatcherState) → c.handed ≡ an_older head p → c.verdict ≡ Consistent → AreHashes p
    → IsMonitorState H t c.after → t.accepted ≡ Some known → head.tree_size < known.tree_size
    → IsHeadOfAll H (take head.tree_size D) head ⊎ CollideAmong H (IsHashedForOlder H (take known.tree_size D) head known.tree_size p)

-- the bytes encode a state that keeps w
abbrev pub KeepsInBytes : (List ℕ → List ℕ) → List ℕ → Watched → Type 0
KeepsInBytes H bytes w = (t : WatcherState) × IsMonitorState H t bytes × Keeps H t w

-- no call over these bytes refuses them, whatever answer it is given: a call refuses only bytes that are no state
abbrev pub IsNeverRefused : (List ℕ → List ℕ) → List ℕ → Type 0
IsNeverRefused H bytes = IsNoState H bytes → ⊥

-- The log has handed out w after these calls, if it had handed out `first` before. The last state keeps w, and is never refused. Each head
-- that a call accepted, and each older head that a call found consistent with the accepted one, is the head of a prefix of the accepted
-- leaves of w; for an older head, or two strings collide.
abbrev pub CallsHandOut : (List ℕ → List ℕ) → List ℕ → List MonitorCall → Watched → Watched → Type 0
CallsHandOut H before calls first w =
    HandOut H first calls w × KeepsInBytes H (last_state before calls) w × All (IsOfFirstLeaves H w.sure) calls × IsNeverRefused H (last_state before calls)
    × All (IsOlderOfFirstLeaves H w.sure) calls

-- Take any calls, each over the state that the previous one returned, the first over the state of `begin`. Each accepted head is the head
-- of a prefix of one list: the leaves that were handed out and are accepted after the last call.
abbrev pub CallsAgree : Type 0
CallsAgree =
    (H : List ℕ → List ℕ) → ((x : List ℕ) → length (H x) ≡ 32) → (first : List ℕ) (calls : List MonitorCall) → IsMonitorBegin H first → AreCalls H first calls
    → (w : Watched) × CallsHandOut H first calls nothing_seen w

-- the waiting head is larger and later than the accepted one, and has more leaves than were read; if no head waits, all leaves that were
-- read are accepted
abbrev pub IsWaiting : Watched → Option Head → Type 0
IsWaiting w None = w.ahead ≡ []
IsWaiting w (Some head) = IsGrownLater w.accepted w.newest.accepted head × (length (leaves_read w) < head.tree_size)

-- a log can have handed out w to a monitor: the accepted head is the head of the accepted leaves, the waiting one is larger and later, and
-- of each the newest timestamp is not before the earliest
abbrev pub IsHandedOut : (List ℕ → List ℕ) → Watched → Type 0
IsHandedOut H w =
    IsFollowing H w.sure w.accepted × IsWaiting w w.waiting × NewestFits w.accepted w.newest.accepted × NewestFits w.waiting w.newest.waiting

-- The same from any state on that keeps `first`, if a log can have handed out `first`.
abbrev pub CallsAgreeFrom : Type 0
CallsAgreeFrom =
    (H : List ℕ → List ℕ) → ((x : List ℕ) → length (H x) ≡ 32) → (before : List ℕ) (calls : List MonitorCall) (first : Watched) → IsHandedOut H first
    → KeepsInBytes H before first → AreCalls H before calls → (w : Watched) × CallsHandOut H before calls first w

-- the parts of a state fit, if a log can have handed out the leaves and heads that it keeps
abbrev pub MonitorStatesFit : Type 0
MonitorStatesFit = (H : List ℕ → List ℕ) (s : WatcherState) (w : Watched) → IsHandedOut H w → Keeps H s w → FitsTogether H s

-- the bytes of two states differ, whether their parts fit or not
abbrev pub MonitorStatesDiffer : Type 0
MonitorStatesDiffer =
    (H : List ℕ → List ℕ) → ((x : List ℕ) → length (H x) ≡ 32) → (s t : WatcherState) → IsInBytes s → IsInBytes t
    → monitor_state_text H s ≡ monitor_state_text H t → s ≡ t

-- the bytes of a state whose parts do not fit are not a state
abbrev pub UnfitStatesAreRefused : Type 0
UnfitStatesAreRefused =
    (H : List ℕ → List ℕ) → ((x : List ℕ) → length (H x) ≡ 32) → (s : WatcherState) → IsInBytes s → (FitsTogether H s → ⊥) → IsNoState H (monitor_state_text H s)
