-- Uses the laws of tiles and of their names, which the body calls.
use Rattle.ct_node.proofs.Contents.{steps_write_tiles, steps_have_one_content}
use Rattle.ct_node.proofs.log_laws.names.Goals as goal

pub returns : goal.returns
returns c = record {
  tiles = steps_write_tiles c.tiles.ensures.stay;
  one_content = steps_have_one_content (steps_write_tiles c.tiles.ensures.stay) c.names.ensures.differ;
}
