use Rattle.std.proofs.Common.{ℕ, ◌≡◌, ◌*◌, ◌/◌, arith, ap, ◌∙◌}
use Rattle.ct_subtrees.proofs.Halves.{power_half}
use Rattle.ct_subtrees.proofs.covering.least_power.Goals as goal

twice : (k w v : ℕ) → w ≡ 2 * v → k * w ≡ 2 * k * v
twice k w v e = ap (λ (u : ℕ). k * u) e ∙ omega arith

pub loop-width-init : goal.loop-width-init
loop-width-init c = record { enough = c.requires.enough; power = c.requires.power; multiple = (1, omega arith) }

pub loop-width-preserved : goal.loop-width-preserved
loop-width-preserved c =
    let l = c.loop-width in
    let half = power_half l.width c.args.count l.invariant.power c.requires.some c.loop-width-test.true in
    record {
      enough = c.loop-width-test.true;
      power = half.0;
      multiple = (2 * l.invariant.multiple.0, l.invariant.multiple.1 ∙ twice l.invariant.multiple.0 l.width (l.width / 2) half.1);
    }

pub returns : goal.returns
returns c =
    let l = c.loop-width in
    record {
      enough = l.invariant.enough;
      least = omega (arith, c.loop-width-test.false);
      power = l.invariant.power;
      multiple = l.invariant.multiple;
    }
