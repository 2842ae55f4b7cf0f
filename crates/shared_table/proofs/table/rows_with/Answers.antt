use Rattle.std.proofs.Common.{List, length, ap, sym, ◌∙◌, subst}
use Rattle.std.specs.Arc.{arc_value}
use Rattle.shared_table.specs.Looked.{below, looked_row, AreParts}
use Rattle.shared_table.proofs.Sides.{all_parts}
use Rattle.shared_table.proofs.table.rows_with.Goals as goal

pub each_row_with-requires : goal.each_row_with-requires
each_row_with-requires c = ap length c.deref.ensures.value ∙ c.in_ok-parts.ensures.0

pub returns : goal.returns
returns c = λ a.
    let parts : AreParts c.deref.result.now c.args.slots.now = subst (λ (ps : List _). AreParts ps c.args.slots.now) (sym c.deref.ensures.value) c.in_ok-parts.ensures in
    ap (λ (xs : List _). below xs (λ p k. looked_row (arc_value p) k) a) c.in_ok-all-2.ensures
    ∙ all_parts c.in_ok-all.all.items c.args.rows.now (λ p k. looked_row (arc_value p) k) c.args.slots.now (c.in_ok-all.ensures c.args.slots.now parts) a
