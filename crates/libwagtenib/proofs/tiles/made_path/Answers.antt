use Rattle.ct_tiles.specs.Handed.{contents_in}
use Rattle.libwagtenib.specs.Tiles.{path_of}
use Rattle.libwagtenib.proofs.Made.{path_made, fault_refuses}
use Rattle.libwagtenib.proofs.tiles.made_path.Goals as goal

pub returns-in-Ok : goal.returns-in-Ok
returns-in-Ok c =
    path_made c.args.index c.args.size (contents_in c.args.contents.now) c.in-Ok.found.items c.requires.below c.requires.few c.in-Ok.ensures.whole
    c.in-Ok.ensures.path

pub returns-in-Err : goal.returns-in-Err
returns-in-Err c =
    fault_refuses (path_of c.args.index c.args.size) (contents_in c.args.contents.now) c.in-Err.fault c.number_of.result c.requires.below c.requires.few
    c.in-Err.ensures.fault c.number_of.ensures
