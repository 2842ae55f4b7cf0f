use Rattle.std.proofs.Common.{◌≡◌, ◌/◌, ◌^◌, map}
use Rattle.ct_step.proofs.Names.{text_in}
use Rattle.ct_step.specs.Needed.{level_names}
use Rattle.ct_step.proofs.edge_names.needed.Given as goal

abbrev pub invariant-loop-level : goal.invariant-loop-level
invariant-loop-level l = record {
  count : l.count ≡ l.line.tree_size / 256 ^ l.level;
  names : map text_in l.names.items ≡ level_names l.level l.line.tree_size;
}
