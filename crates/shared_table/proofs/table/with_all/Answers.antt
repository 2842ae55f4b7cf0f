use Rattle.std.proofs.Common.{◌≡◌, ◌++◌, ◌∙◌, arith}
use Rattle.std.proofs.lemmas.Grind.{common_steps}
use Rattle.std.specs.Arc.{arc_value}
use Rattle.shared_table.specs.Looked.{below, looked_row}
use Rattle.shared_table.proofs.Sides.{waits}
use Rattle.shared_table.proofs.table.with_all.Goals as goal

pub returns : goal.returns
returns c = λ b.
    let old = c.args.table.now in
    let fresh : c.in_ok-fresh.fresh.items ≡ old.fresh.items ++ c.args.slots.now = grind (arith, common_steps) in
    c.in_ok-more.ensures b
    ∙ waits (below old.rows (λ p k. looked_row (arc_value p) k) b) old.fresh.items c.args.slots.now c.in_ok-fresh.fresh.items b fresh
