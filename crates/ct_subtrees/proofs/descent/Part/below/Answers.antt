use Rattle.ct_subtrees.proofs.Steps.{not_shown}
use Rattle.ct_subtrees.proofs.Depths.{whole_part, below-whole, below-left, below-right, below-both}
use Rattle.ct_subtrees.proofs.descent.Part.below.Goals as goal

pub returns-then-is_all-clause-part : goal.returns-then-is_all-clause-part
returns-then-is_all-clause-part c = below-whole c.args.self (c.is_all.ensures.0 c.if-is_all.true)

pub returns-then-self-middle-clause-part : goal.returns-then-self-middle-clause-part
returns-then-self-middle-clause-part c =
    below-left c.args.self c.largest_power_below-middle.result (not_shown (whole_part c.args.self) c.is_all.result c.is_all.ensures.1 c.if-is_all.false)
    c.largest_power_below-middle.ensures.split c.if-self-middle.true

pub returns-then-self-middle-2-clause-part : goal.returns-then-self-middle-2-clause-part
returns-then-self-middle-2-clause-part c =
    below-right c.args.self c.largest_power_below-middle.result (not_shown (whole_part c.args.self) c.is_all.result c.is_all.ensures.1 c.if-is_all.false)
    c.largest_power_below-middle.ensures.split c.if-self-middle-2.true c.requires.some

pub returns-clause-part : goal.returns-clause-part
returns-clause-part c =
    below-both c.args.self c.largest_power_below-middle.result (not_shown (whole_part c.args.self) c.is_all.result c.is_all.ensures.1 c.if-is_all.false)
    c.largest_power_below-middle.ensures.split c.if-self-middle-2.false c.if-self-middle.false
