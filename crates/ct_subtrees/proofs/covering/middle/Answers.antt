use Rattle.std.proofs.Common.{ℕ, ◌≡◌, ◌+◌, ◌*◌, ◌<◌, refl, arith, subst, sym}
use Rattle.ct_subtrees.proofs.Halves.{low_up, high_up, power_up, fits_twice, next_block}
use Rattle.ct_subtrees.proofs.covering.middle.Goals as goal

pub loop-before-init : goal.loop-before-init
loop-before-init c = record {
  power = (0, refl);
  low = omega arith;
  high = omega arith;
  node_low = omega arith;
  node_high = omega arith;
  order = c.requires;
}

pub overflow_mul-width : goal.overflow_mul-width
overflow_mul-width c =
    omega (arith, fits_twice c.loop-before.node c.loop-before.width c.args.last c.loop-before.invariant.node_low (omega (arith, c.loop-before-test.true)))

pub loop-before-preserved : goal.loop-before-preserved
loop-before-preserved c =
    let l = c.loop-before in
    record {
      power = power_up l.width l.invariant.power;
      low = low_up l.before l.width c.args.start l.invariant.low;
      high = high_up l.before l.width c.args.start l.invariant.high;
      node_low = low_up l.node l.width c.args.last l.invariant.node_low;
      node_high = high_up l.node l.width c.args.last l.invariant.node_high;
      order = c.loop-before-test.true;
    }

pub returns : goal.returns
returns c =
    let l = c.loop-before in
    let e : l.node ≡ l.before + 1 = omega (arith, c.loop-before-test.false, l.invariant.order) in
    record {
      above = subst (λ (u : ℕ). c.args.start < u * l.width) (sym e) l.invariant.high;
      within = l.invariant.node_low;
      reaches = next_block l.before l.node l.width c.args.start e l.invariant.low;
      has = omega (arith, l.invariant.node_high);
      power = l.invariant.power;
      multiple = (l.node, refl);
    }
