use Rattle.std.proofs.Common.{◌<◌, rules}
use Rattle.libwagtenib.specs.Tiles.{proof_of}
use Rattle.libwagtenib.proofs.Made.{names_written}
use Rattle.libwagtenib.proofs.tiles.wagtenib_proof_tiles.Goals as goal

pub returns-in-Ok : goal.returns-in-Ok
returns-in-Ok c =
    let some : 0 < c.args.first = search rules in
    let below : c.args.first < c.args.second = search rules in
    let written = rw (c.deref.ensures.value, c.in-Ok.ensures.tiles) at c.write_names.ensures in
    names_written (proof_of c.args.first c.args.second) c.write_names.result c.args.names.now c.write_names.new.names c.args.length.now c.write_names.new.length (some, below) written
