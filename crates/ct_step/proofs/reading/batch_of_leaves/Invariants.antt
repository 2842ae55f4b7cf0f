use Rattle.std.proofs.Common.{◌≡◌, ◌++◌, map, drop}
use Rattle.std.specs.Prelude.{option_map}
use Rattle.ct_data_tiles.specs.DataTile.{tiled_all}
use Rattle.ct_step.specs.StepBytes.{entry_parts, batch_in}
use Rattle.ct_step.proofs.reading.batch_of_leaves.Given as goal

abbrev pub invariant-loop-leaf : goal.invariant-loop-leaf
invariant-loop-leaf l =
    option_map (λ es. map entry_parts l.batch.items ++ es) (batch_in (tiled_all (drop l.leaf-index l.leaves)))
    ≡ batch_in (tiled_all l.leaves)
