use Rattle.ct_tiles.specs.Needed.{path_tiles}
use Rattle.libwagtenib.proofs.HashTiles.{all_named, path_named}
use Rattle.libwagtenib.proofs.tiles.path_tiles.Goals as goal

pub returns-clause-named : goal.returns-clause-named
returns-clause-named c =
    all_named c.tiles_for_path.result (path_tiles c.args.index c.args.size) (path_named c.args.index c.args.size c.requires c.ranges.size.fits) c.tiles_for_path.ensures
