use Rattle.std.proofs.Common.{◌≡◌, ℕ, ◌++◌, [], refl, ap, ◌∙◌, arith}
use Rattle.std.proofs.lemmas.Grind.{common_steps}
use Rattle.std.specs.Arc.{arc_value}
use Rattle.shared_table.specs.Looked.{places_in, below, looked_row}
use Rattle.shared_table.proofs.Sides.{below_same, part_begins, part_grows, part_stays, waits}
use Rattle.shared_table.proofs.table.row_with.Goals as goal

pub returns-then-rows-index : goal.returns-then-rows-index
returns-then-rows-index c =
    part_begins c.args.rows.now (λ p b. looked_row (arc_value p) b) c.in_ok-row.row c.args.index c.args.part.now c.if-rows-index.true
    (λ b. c.in_ok-row.ensures b ∙ below_same c.new.result [] (λ p k. places_in (arc_value p).items k) (places_in c.args.part.now b) b c.new.ensures)

pub returns-then-is_empty : goal.returns-then-is_empty
returns-then-is_empty c =
    let none : c.args.part.now ≡ [] = grind (arith, common_steps) in
    let same : arc_value c.in_ok-row-2.row ≡ arc_value c.index-rows-index.result = grind (arith, common_steps) in
    part_stays c.args.rows.now (λ p b. looked_row (arc_value p) b) c.index-rows-index.result c.in_ok-row-2.row c.args.index c.args.part.now
    c.if-rows-index.false c.index-rows-index.is none (λ b. ap (λ (v : _). looked_row v b) same)

pub returns : goal.returns
returns c =
    let old = arc_value c.index-rows-index.result in
    let row : (b : ℕ) → looked_row (arc_value c.in_ok-row-3.row) b
    ≡ below old.buckets (λ p k. places_in (arc_value p).items k) b ++ places_in (old.fresh.items ++ c.args.part.now) b = grind (arith, common_steps) in
    part_grows c.args.rows.now (λ p b. looked_row (arc_value p) b) c.index-rows-index.result c.in_ok-row-3.row c.args.index c.args.part.now
    c.if-rows-index.false c.index-rows-index.is
    (λ b.
    row b
    ∙ waits (below old.buckets (λ p k. places_in (arc_value p).items k) b) old.fresh.items c.args.part.now (old.fresh.items ++ c.args.part.now) b refl)
