use Rattle.std.proofs.Common.{ℕ, ◌+◌, ◌-◌, ◌<◌, ◌/◌, length, arith}
use Rattle.ct_core.proofs.HeadSteps.{below_middle, above_middle}
use Rattle.ct_core.proofs.answers.place_of_size.Goals as goal

pub loop-low-preserved-then-at-n : goal.loop-low-preserved-then-at-n
loop-low-preserved-then-at-n c =
    let low = c.loop-low.low in
    let high = c.loop-low.high in
    let middle : ℕ = low + (high - low) / 2 in
    let (order, within, below, above) = c.loop-low.invariant in
    let test : low < high = c.loop-low-test.true in
    let inside : middle < length c.args.heads.now = omega (arith, test, within) in (
      omega (arith, test),
      within,
      λ i d under.
          below_middle c.args.heads.now c.args.n middle i d c.at.result.now c.requires inside c.at.ensures c.if-at-n.true under,
      above,
    )

pub loop-low-preserved : goal.loop-low-preserved
loop-low-preserved c =
    let low = c.loop-low.low in
    let high = c.loop-low.high in
    let middle : ℕ = low + (high - low) / 2 in
    let (order, within, below, above) = c.loop-low.invariant in
    let test : low < high = c.loop-low-test.true in
    let inside : middle < length c.args.heads.now = omega (arith, test, within) in (
      omega arith,
      omega (arith, inside),
      below,
      λ i d over there.
          above_middle c.args.heads.now c.args.n middle i d c.at.result.now c.requires inside c.at.ensures c.if-at-n.false over there,
    )
