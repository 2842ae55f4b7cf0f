use Rattle.ct_data_tiles.proofs.Verdict.{tile_leaves_have_one_fault}
use Rattle.ct_data_tiles.proofs.laws.tile_leaves_have_one_fault.Goals as goal

pub returns : goal.returns
returns c = tile_leaves_have_one_fault
