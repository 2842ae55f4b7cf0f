use Rattle.std.proofs.Common.{◌≡◌, arith, inl, refl, length}
use Rattle.libwagtenib.proofs.Made.{length-pieces}
use Rattle.libwagtenib.proofs.tiles.handed.Goals as goal

pub returns-then-lengths-count : goal.returns-then-lengths-count
returns-then-lengths-count c =
    inl (refl, omega (arith, length-pieces c.args.lengths.now c.args.bytes.now, c.if-lengths-count.true))

pub returns-in-Ok : goal.returns-in-Ok
returns-in-Ok c =
    (c.in-Ok.ensures, omega (arith, length-pieces c.args.lengths.now c.args.bytes.now, c.if-lengths-count.false))
