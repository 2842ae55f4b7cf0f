use Rattle.std.proofs.Common.{arith}
use Rattle.ct_tree.proofs.Split.{power_one, power_pos, split_is, split_unique, mul_two}
use Rattle.ct_tree.proofs.power.largest_power_below.Goals as goal

pub loop-power-init : goal.loop-power-init
loop-power-init c = record { power = power_one; below = c.requires }

pub loop-power-preserved : goal.loop-power-preserved
loop-power-preserved c =
    record { power = mul_two c.loop-power.power c.loop-power.invariant.power; below = omega arith }

pub loop-power-smaller : goal.loop-power-smaller
loop-power-smaller c = omega (arith, power_pos c.loop-power.power c.loop-power.invariant.power)

pub returns-clause-split : goal.returns-clause-split
returns-clause-split c =
    split_unique c.args.n _ _ (record { power = c.loop-power.invariant.power; below = c.loop-power.invariant.below; half = omega arith })
    (split_is c.args.n c.requires)

pub returns-clause-positive : goal.returns-clause-positive
returns-clause-positive c = power_pos c.loop-power.power c.loop-power.invariant.power
