use Rattle.ct_tree.proofs.Equations.{split_is_largest_power_below}
use Rattle.ct_tree.proofs.laws.split.Goals as goal

pub returns : goal.returns
returns c = split_is_largest_power_below
