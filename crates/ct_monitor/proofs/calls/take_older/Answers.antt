use Rattle.std.proofs.Common.{ℕ, List, Option, subst}
use Rattle.std.specs.Prelude.{MatchOption}
use Rattle.sha2.specs.Sha256.{sha256}
use Rattle.ct_monitor.specs.WatcherState.{WatcherState}
use Rattle.ct_monitor.specs.Calls.{an_older}
use Rattle.ct_monitor.specs.StateText.{IsNoState, IsMonitorState}
use Rattle.ct_monitor.proofs.Answered.{answered}
use Rattle.ct_monitor.proofs.calls.take_older.Goals as goal

abbrev IsReadAs : List ℕ → Option WatcherState → Type 0
IsReadAs bytes o = MatchOption o (IsNoState sha256 bytes) (λ w. IsMonitorState sha256 w bytes)

pub returns-in_default : goal.returns-in_default
returns-in_default c = subst (IsReadAs c.args.state.now) c.in_default.is c.in_ok-watcher.ensures

pub returns : goal.returns
returns c =
    let is = subst (IsReadAs c.args.state.now) c.in-Some.is c.in_ok-watcher.ensures in
    answered sha256 c.args.state.now (an_older c.args.head c.args.path.now) c.in-Some.watcher c.in-Some.watcher c.judge_older-verdict.result c.in_ok-answer.answer is c.judge_older-verdict.ensures
    c.in_ok-answer.ensures.verdict c.in_ok-answer.ensures.state
