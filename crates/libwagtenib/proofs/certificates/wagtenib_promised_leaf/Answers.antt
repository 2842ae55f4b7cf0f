use Rattle.std.proofs.Common.{◌<◌, ◌^◌, length, rules, inl, refl}
use Rattle.libwagtenib.proofs.certificates.wagtenib_promised_leaf.Goals as goal

pub returns-in-Ok : goal.returns-in-Ok
returns-in-Ok c =
    let written = rw c.deref.ensures.value at c.write_output.ensures in
    let short : length c.args.extensions.now < 2 ^ 16 = search rules in
    inl (short, inl (c.in-Ok.found.items, c.in-Ok.ensures.found, written, refl))
