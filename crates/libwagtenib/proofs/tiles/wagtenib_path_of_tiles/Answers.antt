use Rattle.std.proofs.Common.{inl}
use Rattle.libwagtenib.proofs.tiles.wagtenib_path_of_tiles.Goals as goal

pub returns-in-Ok : goal.returns-in-Ok
returns-in-Ok c =
    let written = rw c.deref.ensures.value at c.write_hashes.ensures in
    inl (c.in-Ok.ensures.0, (c.in-Ok.found.items, c.in-Ok.ensures.1, written))
