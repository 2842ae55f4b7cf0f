use Rattle.std.proofs.Common.{inl, refl}
use Rattle.libwagtenib.proofs.certificates.wagtenib_precertificate_entry.Goals as goal

pub returns-in-Ok : goal.returns-in-Ok
returns-in-Ok c =
    let written = rw c.deref.ensures.value at c.write_output.ensures in
    inl (c.in-Ok.found.items, c.in-Ok.ensures.found, written, refl)
