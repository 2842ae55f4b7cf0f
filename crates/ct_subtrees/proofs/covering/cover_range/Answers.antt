use Rattle.ct_subtrees.proofs.Covered.{covered}
use Rattle.ct_subtrees.proofs.covering.cover_range.Goals as goal

pub returns : goal.returns
returns c =
    covered c.args.start c.args.end c.middle-middle.result.0 c.middle-middle.result.1 c.least_power-width.result c.requires c.middle-middle.ensures
    c.least_power-width.ensures
