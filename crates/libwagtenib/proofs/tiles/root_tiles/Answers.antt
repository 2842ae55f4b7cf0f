use Rattle.ct_tiles.specs.Needed.{root_tiles}
use Rattle.libwagtenib.proofs.HashTiles.{all_named, root_named}
use Rattle.libwagtenib.proofs.tiles.root_tiles.Goals as goal

pub returns-clause-named : goal.returns-clause-named
returns-clause-named c =
    all_named c.tiles_for_root.result (root_tiles c.args.size) (root_named c.args.size c.requires c.ranges.size.fits) c.tiles_for_root.ensures
