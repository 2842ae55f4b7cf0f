use Rattle.std.proofs.Common.{◌≡◌, ◌-◌, map}
use Rattle.ct_step.specs.StepAnswers.{level_parts}
use Rattle.ct_step.proofs.EdgeParts.{behind_tiles, bytes_in}
use Rattle.ct_step.proofs.edge.edge_of.Given as goal

abbrev pub invariant-loop-level : goal.invariant-loop-level
invariant-loop-level l =
    behind_tiles (map bytes_in l.tiles.items) (level_parts (8 - l.level) l.count (map bytes_in l.rest))
    ≡ level_parts 8 l.size (map bytes_in l.contents)
