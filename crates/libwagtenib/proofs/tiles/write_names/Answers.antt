use Rattle.std.proofs.Common.{inl}
use Rattle.libwagtenib.proofs.tiles.write_names.Goals as goal

pub returns-in-Ok : goal.returns-in-Ok
returns-in-Ok c = inl (rw (c.deref.ensures.value, c.in-Ok.ensures) at c.write_output.ensures)
