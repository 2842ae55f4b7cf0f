use Rattle.ct_data_tiles.proofs.Verdict.{tile_leaf_texts_have_no_fault}
use Rattle.ct_data_tiles.proofs.laws.tile_leaf_texts_have_no_fault.Goals as goal

pub returns : goal.returns
returns c = tile_leaf_texts_have_no_fault
