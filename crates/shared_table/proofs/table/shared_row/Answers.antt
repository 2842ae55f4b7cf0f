use Rattle.std.proofs.Common.{List, ◌++◌, ap, ◌∙◌}
use Rattle.std.specs.Arc.{arc_value}
use Rattle.shared_table.specs.declared.slots.Slot.{Slot}
use Rattle.shared_table.specs.Looked.{places_in, below, looked_row}
use Rattle.shared_table.proofs.table.shared_row.Goals as goal

pub returns : goal.returns
returns c = λ a.
    ap (λ (r : _). looked_row r a) c.in_ok-shared.ensures.ok
    ∙ c.in_ok-row.ensures a
    ∙ ap (λ (xs : List Slot). below c.args.buckets.now (λ p k. places_in (arc_value p).items k) a ++ places_in xs a) c.in_ok-fresh.ensures
