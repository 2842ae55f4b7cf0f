use Rattle.std.proofs.Common.{◌≡◌, ◌<◌, ◌+◌, ◌++◌, [], ◌∷◌, List, ℕ, length, ap, sym, ◌∙◌, subst, arith}
use Rattle.std.proofs.lemmas.List.{length_push}
use Rattle.std.specs.Arc.{arc_value}
use Rattle.shared_table.specs.Looked.{looked_row, AreMore}
use Rattle.shared_table.proofs.Sides.{slots_more}
use Rattle.shared_table.proofs.table.each_row_with.Goals as goal

pub loop-index-preserved : goal.loop-index-preserved
loop-index-preserved c =
    let (size, are) = c.loop-index.invariant in
    let i = c.loop-index.index in
    let one = c.in_ok-row.row in
    let pushed : c.push.new.self.items ≡ c.loop-index.all.items ++ one ∷ [] = c.in_ok-push.ensures.items in
    let small : i < 64 = c.loop-index-test.true in
    let count : length (c.loop-index.all.items ++ one ∷ []) ≡ i + 1 = length_push c.loop-index.all.items one ∙ ap (λ (n : ℕ). n + 1) size in
    let more = slots_more c.loop-index.all.items c.args.rows.now (λ p k. looked_row (arc_value p) k) c.args.parts.now c.index-parts-index.result c.deref.result.now
    i one size small c.requires c.index-parts-index.is c.deref.ensures.value c.in_ok-row.ensures are in (
      ap length pushed ∙ count,
      λ slots is. subst (λ (xs : List _). AreMore xs c.args.rows.now (λ p k. looked_row (arc_value p) k) slots (i + 1)) (sym pushed) (more slots is),
    )

pub returns : goal.returns
returns c = λ slots is.
    let all : c.loop-index.index ≡ 64 = omega arith in
    subst (AreMore c.loop-index.all.items c.args.rows.now (λ p k. looked_row (arc_value p) k) slots) all (c.loop-index.invariant.1 slots is)
