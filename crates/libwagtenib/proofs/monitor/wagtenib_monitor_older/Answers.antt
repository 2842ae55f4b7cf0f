use Rattle.std.proofs.Common.{Option, inl, inr, subst}
use Rattle.std.specs.Prelude.{MatchOption}
use Rattle.sha2.specs.Sha256.{sha256}
use Rattle.ct_monitor.specs.Calls.{an_older, IsMonitorAnswer}
use Rattle.ct_monitor.specs.StateText.{IsNoState}
use Rattle.ct_monitor.specs.declared.answer.Answer.{Answer}
use Rattle.libwagtenib.specs.Guard.{head_of_c}
use Rattle.libwagtenib.proofs.monitor.wagtenib_monitor_older.Goals as goal

pub returns-in-Ok-Some : goal.returns-in-Ok-Some
returns-in-Ok-Some c =
    let is = subst (λ (o : Option Answer). MatchOption o (IsNoState sha256 c.args.state.now)
    (λ a. IsMonitorAnswer sha256 c.args.state.now (an_older (head_of_c c.args.head.now) c.args.path.now) a)) c.in-Ok-Some.field-0-is c.in-Ok-Some.ensures in
    inr (inl (c.in-Ok-Some.answer, is, c.give.ensures))
