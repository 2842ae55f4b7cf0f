use Rattle.std.proofs.Common.{◌∙◌, ℕ, List, Vec, Global, map, ap, subst}
use Rattle.std.specs.Prelude.{IfOk, MatchOption}
use Rattle.sha2.specs.Sha256.{sha256}
use Rattle.ct_monitor.specs.Calls.{IsEntriesAnswer, entries_from}
use Rattle.ct_monitor.specs.StateText.{IsNoState}
use Rattle.libwagtenib.proofs.monitor.answer_to.Goals as goal

abbrev bytes : Vec ℕ Global → List ℕ
bytes l = l.items

pub returns : goal.returns
returns c =
    subst (λ (E : List (List ℕ)). IfOk c.take_entries.result (λ o. MatchOption o (IsNoState sha256 c.args.state.now)
    (λ a. IsEntriesAnswer sha256 c.args.state.now c.args.start E a))) (ap (map bytes) c.deref.ensures.value ∙ c.in_ok-entries.ensures) c.take_entries.ensures
