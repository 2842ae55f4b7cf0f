use Rattle.std.proofs.Common.{◌≡◌, ℕ, ◌*◌, ◌≤◌}
use Rattle.ct_subtrees.specs.Cover.{IsPower}
use Rattle.ct_subtrees.proofs.covering.least_power.Given as goal

abbrev pub invariant-loop-width : goal.invariant-loop-width
invariant-loop-width l = record {
  enough : l.count ≤ l.width;
  power : IsPower l.width;
  multiple : (k : ℕ) × (l.power ≡ k * l.width);
}

abbrev pub decreases-loop-width : goal.decreases-loop-width
decreases-loop-width l = l.width
