use Rattle.std.proofs.Common.{map, take, All}
use Rattle.ct_step.specs.Resumed.{object_parts}
use Rattle.ct_step.specs.StepWords.{IsTileName}
use Rattle.ct_step.proofs.stepping.are_tiles.Given as goal

abbrev pub invariant-loop-object : goal.invariant-loop-object
invariant-loop-object l = All IsTileName (map (λ o. (object_parts o).0) (take l.object-index l.objects))
