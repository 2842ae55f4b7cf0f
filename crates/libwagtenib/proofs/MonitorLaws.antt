-- Calls of the monitor that returned 0.
use Rattle.std.proofs.Common.{◌≡◌, ◌∙◌, ◌⊎◌, ◌++◌, ℕ, List, [], ◌∷◌, length, take, drop, sym, refl, ap, subst, inl, inr, ⊎_elim, arith}
use Rattle.std.proofs.Math.Seq.{take-append_seam}
use Rattle.sha2.specs.Sha256.{sha256}
use Rattle.sha2.proofs.Facts256.{length-sha256}
use Rattle.ct_monitor.specs.Calls.{Handed, a_head, entries_from, a_proof, an_older, HasState, IsMonitorBegin, StateJudges}
use Rattle.ct_monitor.specs.CallLaws.{MonitorCall, CallsHandOut, IsCallOver, IsNeverRefused, AreCalls, last_state}
use Rattle.ct_monitor.specs.Starts.{IsHashedForStart, IsMonitorStart, known_at_start}
use Rattle.ct_monitor.specs.declared.starting.StartFault.TheVariants.{OtherCount, OtherRoot, Memory}
use Rattle.ct_monitor.specs.StateText.{IsMonitorState}
use Rattle.ct_monitor.specs.declared.answer.Answer.{Answer}
use Rattle.ct_monitor.proofs.CallHistory.{calls_agree}
use Rattle.ct_monitor.proofs.Starts.{calls_agree_from_start}
use Rattle.ct_monitor.specs.Heads.{IsHeadOfAll}
use Rattle.ct_monitor.specs.Watched.{Watched}
use Rattle.ct_monitor.specs.WatcherState.{WatcherState}
use Rattle.ct_tree.specs.declared.head.Head.{Head}
use Rattle.ct_verify.specs.Hashed.{CollideAmong}
use Rattle.libwagtenib.specs.Guard.{head_of_c}
use Rattle.libwagtenib.specs.Monitor.{BeginsMonitor, StartsMonitor, GivesAnswer, Judges, JudgesEntries, TellsVerdict, verdict_code, verdict_fault, verdict_known, verdict_root}
use Rattle.libwagtenib.specs.MonitorLaws.{JudgingCall, CountsState, ReturnsOver, state_written, AreJudging, last_written, AreCallsOf, JudgingCallsAgree, StartedCallsAgree}
use Rattle.libwagtenib.specs.Tiles.{pieces}
use Rattle.libwagtenib.specs.Output.{WritesOutput}
use Rattle.libwagtenib.specs.declared.monitor.MonitorVerdict.{MonitorVerdict}

-- the state that a call wrote if it returned 0
written : (text before after : List ℕ) (count : ℕ) → WritesOutput text 0 before after count → take count after ≡ text
written text before after count (n, inl w) =
    ap (λ (k : ℕ). take k after) n ∙ ap (take (length text)) w.1 ∙ take-append_seam text (drop (length text) before)
written text before after count (n, inr r) = absurd (omega (arith, r.0))

told : (a : Answer) (code : ℕ) (verdict tells : MonitorVerdict) → ((code ≡ 0) × TellsVerdict tells a) ⊎ ((code ≡ 9) × (tells ≡ verdict)) → code ≡ 0
    → TellsVerdict tells a
told a code verdict tells (inl t) z = t.1
told a code verdict tells (inr t) z = absurd (omega (arith, t.0, z))

-- a call of ct_monitor that a call was
pub record Found (state : List ℕ) (handed : Handed) (c : JudgingCall) : Type 0 where
  pub call : MonitorCall
  pub over : IsCallOver sha256 state call
  pub same : call.handed ≡ handed
  pub verdict : c.told.verdict ≡ verdict_code call.verdict
  pub fault : c.told.fault ≡ verdict_fault call.verdict
  pub known : head_of_c c.told.known ≡ verdict_known call.verdict
  pub root : c.told.root ≡ verdict_root call.verdict
  pub after : call.after ≡ state_written c
  pub counts : CountsState c.told call.after

given : (state : List ℕ) (handed : Handed) (c : JudgingCall) (a : Answer) (s t : WatcherState) → IsMonitorState sha256 s state → StateJudges sha256 s handed a.verdict t
    → HasState sha256 t a → GivesAnswer a 0 c.verdict c.told c.before c.after c.count
    → Found state handed c
given state handed c a s t is says has g =
    let tells = told a 0 c.verdict c.told g.1 refl in
    record {
      call = record { handed = handed; verdict = a.verdict; after = a.state.items };
      over = (s, t, is, says, has.numbers, has.text);
      same = refl;
      verdict = tells.verdict;
      fault = tells.fault;
      known = tells.known;
      root = tells.root;
      after = sym (written a.state.items c.before c.after c.count g.0);
      counts = (t, has.numbers, has.text, tells.accepted ∙ has.accepted, tells.read ∙ has.read, tells.wanted ∙ has.wanted);
    }

judged : (state : List ℕ) (handed : Handed) (c : JudgingCall) → Judges handed state 0 c.verdict c.told c.before c.after c.count_before c.count → Found state handed c
judged state handed c (inl r) = absurd (omega (arith, r.0))
judged state handed c (inr (inl (a, is, g))) = given state handed c a is.0 is.1 is.2 is.3 is.4 g
judged state handed c (inr (inr r)) = absurd (omega (arith, r.0))

-- a call with entries
read : (state : List ℕ) (start : ℕ) (E : List (List ℕ)) (c : JudgingCall)
    → JudgesEntries start E state 0 c.verdict c.told c.report c.reported c.before c.after c.count_before c.count → Found state (entries_from start E) c
read state start E c (inl r) = absurd (omega (arith, r.0))
read state start E c (inr (inl (a, is, g, report))) = given state (entries_from start E) c a.answer is.0 is.1 is.2 is.3 is.4 g
read state start E c (inr (inr r)) = absurd (omega (arith, r.0))

found : (state : List ℕ) (handed : Handed) (c : JudgingCall) → ReturnsOver state handed c → Found state handed c
found state (a_head head) c r = judged state (a_head head) c r
found state (a_proof path) c r = judged state (a_proof path) c r
found state (an_older head path) c r = judged state (an_older head path) c r
found state (entries_from start E) c (leaves, lengths, e, inl r) = absurd (omega (arith, r.0))
found state (entries_from start E) c (leaves, lengths, e, inr r) =
    subst (λ (l : List (List ℕ)). Found state (entries_from start l) c) (sym e) (read state start (pieces lengths leaves) c r.1)

-- the calls that calls were
pub record AllFound (state : List ℕ) (calls : List JudgingCall) : Type 0 where
  pub others : List MonitorCall
  pub are : AreCallsOf calls others
  pub over : AreCalls sha256 state others
  pub last : last_state state others ≡ last_written state calls

all_found : (state : List ℕ) (calls : List JudgingCall) → AreJudging state calls → AllFound state calls
unfolding AreJudging AreCalls
all_found state [] j = record { others = []; are = tt; over = tt; last = refl }
all_found state (c ∷ calls) j =
    let one = found state c.handed c j.0 in
    let rest = all_found (state_written c) calls j.1 in
    record {
      others = one.call ∷ rest.others;
      are = (
        record { handed = one.same; verdict = one.verdict; fault = one.fault; known = one.known; root = one.root; after = one.after; counts = one.counts },
        rest.are,
      );
      over = (one.over, subst (λ (x : List ℕ). AreCalls sha256 x rest.others) (sym one.after) rest.over);
      last = ap (λ (x : List ℕ). last_state x rest.others) one.after ∙ rest.last;
    }

begun : (before after : List ℕ) (count_before count : ℕ) → BeginsMonitor 0 before after count_before count → IsMonitorBegin sha256 (take count after)
begun before after count_before count (inl (state, is, w)) = written state before after count w ∙ is
begun before after count_before count (inr r) = absurd (omega (arith, r.0))

pub judging_calls_agree : JudgingCallsAgree
judging_calls_agree before after count_before count b calls j =
    let all = all_found (take count after) calls j in
    let agree = calls_agree sha256 length-sha256 (take count after) all.others (begun before after count_before count b) all.over in (
      agree.0,
      all.others,
      all.are,
      agree.1,
      subst (IsNeverRefused sha256) all.last agree.1.3,
    )

begun_at : (head : Head) (subtrees : List (List ℕ)) (before after : List ℕ) (count_before count : ℕ) → StartsMonitor head subtrees 0 before after count_before count
    → IsMonitorStart sha256 head subtrees (take count after)
begun_at head subtrees before after count_before count (inl (state, is, w)) =
    subst (IsMonitorStart sha256 head subtrees) (sym (written state before after count w)) is
begun_at head subtrees before after count_before count (inr (OtherCount, z, r, a, b)) = absurd (omega (arith, z))
begun_at head subtrees before after count_before count (inr (OtherRoot, z, r, a, b)) = absurd (omega (arith, z))
begun_at head subtrees before after count_before count (inr (Memory, z, r, a, b)) = absurd (omega (arith, z))

pub started_calls_agree : StartedCallsAgree
started_calls_agree head subtrees before after count_before count b calls j D is =
    let first = take count after in
    let all = all_found first calls j in
    ⊎_elim
    (λ (agree : (w : Watched) × (Y : List (List ℕ)) × (w.sure ≡ D ++ Y) × CallsHandOut sha256 first all.others (known_at_start head D) w).
    inl (
      agree.0,
      agree.1,
      agree.2,
      all.others,
      all.are,
      agree.3,
      subst (IsNeverRefused sha256) all.last agree.3.3,
    ))
    (λ (collide : CollideAmong sha256 (IsHashedForStart sha256 subtrees D)). inr collide)
    (calls_agree_from_start sha256 length-sha256 head subtrees first all.others (begun_at head subtrees before after count_before count b) all.over D is)
