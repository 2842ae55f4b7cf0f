use Rattle.std.proofs.Common.{length, ap, arith}
use Rattle.libwagtenib.specs.Tiles.{root_of, pieces}
use Rattle.libwagtenib.proofs.Made.{handed_for}
use Rattle.libwagtenib.proofs.tiles.root_contents.Goals as goal

pub returns-in-Ok : goal.returns-in-Ok
returns-in-Ok c =
    handed_for (root_of c.args.size) (pieces c.args.lengths.now c.args.bytes.now) c.len.result c.handed.result c.requires
    (omega (arith, c.in-Ok.tiles.ok.0, c.len.ensures, ap length c.in-Ok.ensures.tiles)) c.handed.ensures
