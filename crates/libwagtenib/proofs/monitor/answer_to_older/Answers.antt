use Rattle.std.proofs.Common.{subst}
use Rattle.std.specs.Prelude.{IfOk, MatchOption}
use Rattle.sha2.specs.Sha256.{sha256}
use Rattle.ct_monitor.specs.Calls.{an_older, IsMonitorAnswer}
use Rattle.ct_monitor.specs.StateText.{IsNoState}
use Rattle.ct_tree.specs.declared.head.Head.{Head}
use Rattle.libwagtenib.proofs.monitor.answer_to_older.Goals as goal

pub returns : goal.returns
returns c =
    subst (λ (h : Head). IfOk c.take_older.result (λ o. MatchOption o (IsNoState sha256 c.args.state.now)
    (λ a. IsMonitorAnswer sha256 c.args.state.now (an_older h c.args.path.now) a))) c.head_of.ensures c.take_older.ensures
