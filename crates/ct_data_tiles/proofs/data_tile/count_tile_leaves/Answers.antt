use Rattle.std.proofs.Common.{[], ◌∷◌, ◌++◌, arith, length-append}
use Rattle.ct_data_tiles.specs.Lent.{tiled}
use Rattle.ct_data_tiles.proofs.Tiles.{one_more_leaf, some_bytes}
use Rattle.ct_data_tiles.proofs.data_tile.count_tile_leaves.Goals as goal

pub leaves-preserved : goal.leaves-preserved
leaves-preserved c =
    let found = c.in-Ok.ensures.found in
    let leaf = tiled c.in-Ok.field-0 in
    let passed = c.leaves.invariant in
    let count = length-append passed.0 (leaf ∷ []) in
    let fewer = some_bytes leaf c.leaves.reader c.tile_leaf_at.new.reader found.text in (
      passed.0 ++ leaf ∷ [],
      one_more_leaf passed.0 leaf c.args.bytes.now c.leaves.reader c.tile_leaf_at.new.reader passed.1 found,
      omega (arith, count, passed.2),
      omega (arith, fewer, passed.3),
    )
