use Rattle.std.proofs.Common.{◌≡◌, ℕ, List, Option, subst, Vec, Global, map, sym}
use Rattle.std.specs.Prelude.{MatchOption}
use Rattle.sha2.specs.Sha256.{sha256}
use Rattle.ct_monitor.specs.WatcherState.{WatcherState}
use Rattle.ct_monitor.specs.Calls.{LeavesState, ReportsEntries, StateJudges, entries_from}
use Rattle.ct_monitor.specs.StateText.{IsNoState, IsMonitorState}
use Rattle.ct_monitor.specs.declared.answer.Answer.{Answer}
use Rattle.ct_monitor.specs.declared.verdict.Verdict.{Verdict}
use Rattle.ct_monitor.proofs.Answered.{reports}
use Rattle.ct_monitor.proofs.Unchanged.{state_after}
use Rattle.ct_monitor.proofs.calls.take_entries.Goals as goal

abbrev bytes : Vec ℕ Global → List ℕ
bytes l = l.items

abbrev IsReadAs : List ℕ → Option WatcherState → Type 0
IsReadAs bytes o = MatchOption o (IsNoState sha256 bytes) (λ w. IsMonitorState sha256 w bytes)

pub returns-in_default : goal.returns-in_default
returns-in_default c = subst (IsReadAs c.args.state.now) c.in_default.is c.in_ok-watcher.ensures

pub returns : goal.returns
returns c =
    let E = map bytes c.args.leaves.now in
    let s = c.in-Some.watcher in
    let t = c.judge_entries.new.watcher in
    let v = c.in_ok-verdict.verdict in
    let a = c.in-Some-2.answer in
    let later = c.reported-told.result.later in
    let faulty = c.reported-told.result.faulty in
    let is = subst (IsReadAs c.args.state.now) c.in-Some.is c.in_ok-watcher.ensures in
    let answers : (a.verdict ≡ v) × LeavesState sha256 c.args.state.now t a =
    subst (λ (o : Option Answer). MatchOption o (IsNoState sha256 c.args.state.now) (λ x. (x.verdict ≡ v) × LeavesState sha256 c.args.state.now t x)) c.in-Some-2.is
    c.in_ok-answer.ensures in
    let u = state_after sha256 c.args.state.now s t (entries_from c.args.start E) v is c.in_ok-verdict.ensures (λ u z. z) a answers.1 in
    let told = reports s E v c.report_of-report.result.later later c.report_of-report.result.faulty faulty c.report_of-report.ensures c.reported-told.ensures in (
      s,
      u.0,
      is,
      subst (λ (x : Verdict). StateJudges sha256 s (entries_from c.args.start E) x u.0) (sym answers.0) u.1,
      u.2,
      subst (λ (x : Verdict). ReportsEntries s E x later faulty) (sym answers.0) told,
      c.waiting_moment-head_timestamp.ensures,
    )
