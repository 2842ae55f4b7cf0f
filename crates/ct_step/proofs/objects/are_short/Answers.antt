use Rattle.std.proofs.Common.{arith}
use Rattle.ct_data_tiles.proofs.Rows.{text_in}
use Rattle.ct_step.specs.Objects.{FitsInBundle}
use Rattle.ct_step.proofs.Loops.{mapped-at, mapped-more, mapped-all}
use Rattle.ct_step.proofs.objects.are_short.Goals as goal

pub returns-then-len-ge4294967296 : goal.returns-then-len-ge4294967296
returns-then-len-ge4294967296 c = λ all.
    absurd (omega (
      arith,
      c.tile-item.result.ok.0,
      c.len.ensures,
      c.if-len-ge4294967296.true,
      mapped-at text_in FitsInBundle c.args.tiles.now c.loop-tile.tile-index c.tile-item.result all c.loop-tile-test.true c.tile-item.is,
    ))

pub loop-tile-preserved : goal.loop-tile-preserved
loop-tile-preserved c =
    mapped-more text_in FitsInBundle c.args.tiles.now c.loop-tile.tile-index c.tile-item.result c.loop-tile-test.true c.tile-item.is c.loop-tile.invariant
    (omega (arith, c.tile-item.result.ok.0, c.len.ensures, c.if-len-ge4294967296.false))

pub returns : goal.returns
returns c = mapped-all text_in FitsInBundle c.args.tiles.now c.loop-tile.tile-index c.loop-tile-test.false c.loop-tile.invariant
