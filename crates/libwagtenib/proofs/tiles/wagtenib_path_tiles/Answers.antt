use Rattle.std.proofs.Common.{◌<◌, rules}
use Rattle.libwagtenib.specs.Tiles.{path_of}
use Rattle.libwagtenib.proofs.Made.{names_written}
use Rattle.libwagtenib.proofs.tiles.wagtenib_path_tiles.Goals as goal

pub returns-in-Ok : goal.returns-in-Ok
returns-in-Ok c =
    let is : c.args.leaf_index < c.args.tree_size = search rules in
    let written = rw (c.deref.ensures.value, c.in-Ok.ensures.tiles) at c.write_names.ensures in
    names_written (path_of c.args.leaf_index c.args.tree_size) c.write_names.result c.args.names.now c.write_names.new.names c.args.length.now c.write_names.new.length is written
