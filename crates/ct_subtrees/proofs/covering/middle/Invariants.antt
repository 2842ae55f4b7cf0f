use Rattle.std.proofs.Common.{◌+◌, ◌*◌, ◌<◌, ◌≤◌}
use Rattle.ct_subtrees.specs.Cover.{IsPower}
use Rattle.ct_subtrees.proofs.covering.middle.Given as goal

abbrev pub invariant-loop-before : goal.invariant-loop-before
invariant-loop-before l = record {
  power : IsPower l.width;
  low : l.before * l.width ≤ l.start;
  high : l.start < (l.before + 1) * l.width;
  node_low : l.node * l.width ≤ l.last;
  node_high : l.last < (l.node + 1) * l.width;
  order : l.before < l.node;
}

abbrev pub decreases-loop-before : goal.decreases-loop-before
decreases-loop-before l = l.node
