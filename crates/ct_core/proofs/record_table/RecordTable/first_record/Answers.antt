use Rattle.std.proofs.Common.{◌≡◌, Bool, Some, ap, sym, ◌∙◌}
use Rattle.std.specs.Prelude.{◌==◌, position}
use Rattle.std.specs.List.{find}
use Rattle.ct_core.specs.declared.settled.Settled.{Settled}
use Rattle.ct_core.proofs.EntrySteps.{find_at, find_nowhere, got, position-inside}
use Rattle.ct_core.proofs.record_table.RecordTable.first_record.Goals as goal

pub returns-in_default : goal.returns-in_default
returns-in_default c = sym (find_nowhere (λ (r : Settled). r.ticket == c.args.ticket) c.args.self.now (sym c.in_default.ensures))

pub returns : goal.returns
returns c =
    let records = c.self.inside.records in
    let passes : Settled → Bool = λ r. r.ticket == c.args.ticket in
    let found : position passes records ≡ Some c.in-Some.place = ap (position passes) c.self.view_is ∙ sym c.in-Some.ensures in
    let inside = position-inside passes records c.in-Some.place found in
    let at = got records c.in-Some.place c.at.result.now inside c.at.ensures in
    sym (find_at passes records c.in-Some.place c.at.result.now found at) ∙ ap (find passes) c.self.view_is
