use Rattle.std.proofs.Common.{arith, sym}
use Rattle.ct_step.proofs.Widths.{not_eight, rest-first, widths-none, widths-step, widths-apart, rest-step}
use Rattle.ct_step.proofs.believed.have_widths.Goals as goal

pub returns-then-tiles-ne8 : goal.returns-then-tiles-ne8
returns-then-tiles-ne8 c = not_eight c.args.tiles.now c.args.size c.if-tiles-ne8.true

pub loop-tile-init : goal.loop-tile-init
loop-tile-init c = record {
  rest = rest-first c.args.size;
  widths = sym (widths-none c.args.size);
}

pub returns-then-len-rest : goal.returns-then-len-rest
returns-then-len-rest c =
    let l = c.loop-tile in
    widths-apart l.tile-index c.args.size l.rest c.args.tiles.now c.tile-item.result c.loop-tile-test.true
    (omega (arith, c.loop-tile-test.true, c.if-tiles-ne8.false)) c.tile-item.is l.invariant.rest
    (λ e. c.if-len-rest.true (omega (arith, c.tile-item.result.ok.0, c.len.ensures, e)))

pub loop-tile-preserved : goal.loop-tile-preserved
loop-tile-preserved c =
    let l = c.loop-tile in
    record {
      rest = rest-step c.args.size l.rest l.tile-index l.invariant.rest;
      widths = widths-step l.tile-index c.args.size l.rest c.args.tiles.now c.tile-item.result c.loop-tile-test.true c.tile-item.is
          l.invariant.rest (omega (arith, c.tile-item.result.ok.0, c.len.ensures, c.if-len-rest.false)) l.invariant.widths;
    }
