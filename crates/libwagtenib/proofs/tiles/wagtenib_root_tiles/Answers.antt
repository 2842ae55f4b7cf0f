use Rattle.std.proofs.Common.{◌<◌, rules}
use Rattle.libwagtenib.specs.Tiles.{root_of}
use Rattle.libwagtenib.proofs.Made.{names_written}
use Rattle.libwagtenib.proofs.tiles.wagtenib_root_tiles.Goals as goal

pub returns-in-Ok : goal.returns-in-Ok
returns-in-Ok c =
    let is : 0 < c.args.tree_size = search rules in
    let written = rw (c.deref.ensures.value, c.in-Ok.ensures.tiles) at c.write_names.ensures in
    names_written (root_of c.args.tree_size) c.write_names.result c.args.names.now c.write_names.new.names c.args.length.now c.write_names.new.length is written
