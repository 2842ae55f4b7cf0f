use Rattle.std.proofs.Common.{List, Option, ℕ, subst}
use Rattle.std.specs.Prelude.{MatchOption}
use Rattle.sha2.specs.Sha256.{sha256}
use Rattle.ct_monitor.specs.WatcherState.{WatcherState}
use Rattle.ct_monitor.specs.Calls.{a_head}
use Rattle.ct_monitor.specs.StateText.{IsNoState, IsMonitorState}
use Rattle.ct_monitor.proofs.Unchanged.{all_answered}
use Rattle.ct_monitor.proofs.calls.take_head.Goals as goal

abbrev IsReadAs : List ℕ → Option WatcherState → Type 0
IsReadAs bytes o = MatchOption o (IsNoState sha256 bytes) (λ w. IsMonitorState sha256 w bytes)

pub returns-in_default : goal.returns-in_default
returns-in_default c = subst (IsReadAs c.args.state.now) c.in_default.is c.in_ok-watcher.ensures

pub returns : goal.returns
returns c =
    let is = subst (IsReadAs c.args.state.now) c.in-Some.is c.in_ok-watcher.ensures in
    all_answered sha256 c.args.state.now c.in-Some.watcher c.judge_head.new.watcher (a_head c.args.head) c.in_ok-verdict.verdict is c.in_ok-verdict.ensures (λ u z. z)
    c.answer_after.result c.answer_after.ensures
