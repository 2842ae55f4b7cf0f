use Rattle.std.proofs.Common.{Option, inl, inr, subst}
use Rattle.std.specs.Prelude.{MatchOption}
use Rattle.sha2.specs.Sha256.{sha256}
use Rattle.ct_monitor.specs.Calls.{IsEntriesAnswer, entries_from}
use Rattle.ct_monitor.specs.StateText.{IsNoState}
use Rattle.ct_monitor.specs.declared.answer.EntriesAnswer.{EntriesAnswer}
use Rattle.libwagtenib.specs.Tiles.{pieces}
use Rattle.libwagtenib.proofs.monitor.judge_pieces.Goals as goal

pub returns-in-Ok-Some : goal.returns-in-Ok-Some
returns-in-Ok-Some c =
    let is = subst (λ (o : Option EntriesAnswer). MatchOption o (IsNoState sha256 c.args.state.now)
    (λ a. IsEntriesAnswer sha256 c.args.state.now c.args.start (pieces c.args.lengths.now c.args.leaves.now) a)) c.in-Ok-Some.field-0-is c.in-Ok-Some.ensures in
    inr (inl (c.in-Ok-Some.answer, is, c.give_report.ensures.given, c.give_report.ensures.reported))
