use Rattle.std.proofs.Common.{◌≡◌, map, take}
use Rattle.ct_data_tiles.proofs.Rows.{text_in}
use Rattle.ct_step.specs.Entries.{tiled_leaves, texts_of}
use Rattle.ct_step.proofs.batch.Batch.texts.Given as goal

abbrev pub invariant-loop-i : goal.invariant-loop-i
invariant-loop-i l = map text_in l.texts.items ≡ texts_of (tiled_leaves l.now l.first (take l.i l.self))
