use Rattle.ct_tiles.specs.Handed.{contents_in}
use Rattle.libwagtenib.specs.Tiles.{root_of}
use Rattle.libwagtenib.proofs.Made.{root_made, fault_refuses}
use Rattle.libwagtenib.proofs.tiles.made_root.Goals as goal

pub returns-in-Ok : goal.returns-in-Ok
returns-in-Ok c =
    root_made c.args.size (contents_in c.args.contents.now) c.in-Ok.found c.requires.some c.requires.few c.in-Ok.ensures.whole c.in-Ok.ensures.root

pub returns-in-Err : goal.returns-in-Err
returns-in-Err c =
    fault_refuses (root_of c.args.size) (contents_in c.args.contents.now) c.in-Err.fault c.number_of.result c.requires.some c.requires.few c.in-Err.ensures.fault
    c.number_of.ensures
