use Rattle.ct_tiles.specs.Handed.{contents_in}
use Rattle.ct_tiles.proofs.HandedOver.{each_given}
use Rattle.ct_tiles.proofs.handed.HandedTiles.new.Goals as goal

pub returns-in-None-clause-gives : goal.returns-in-None-clause-gives
returns-in-None-clause-gives c H D are = each_given H D c.args.tiles.now (contents_in c.args.contents.now) are
