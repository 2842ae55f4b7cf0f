use Rattle.std.proofs.Common.{◌≡◌, ◌-◌, ◌++◌, ◌≤◌}
use Rattle.ct_tiles.specs.Needed.{tiles_from}
use Rattle.ct_tiles.proofs.needed.needed.Given as goal

abbrev pub invariant-loop-level : goal.invariant-loop-level
invariant-loop-level l = record {
  same : tiles_from 8 0 l.fn.first l.fn.own l.fn.last l.fn.size ≡ l.tiles.items ++ tiles_from (8 - l.level) l.level l.first l.own l.last l.size;
  few : l.level ≤ 8;
  within : l.last ≤ l.size;
}

abbrev pub decreases-loop-level : goal.decreases-loop-level
decreases-loop-level l = 8 - l.level
