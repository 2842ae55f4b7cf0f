use Rattle.std.proofs.Common.{[], refl, ◌∙◌}
use Rattle.ct_codec.specs.Decoded.{entry_lent}
use Rattle.ct_codec.proofs.Apart.{leaves_stand_apart}
use Rattle.ct_codec.proofs.Again.{leaf_left}
use Rattle.ct_codec.proofs.reading.decode_leaf.Goals as goal

pub returns-in_err-leaf-clause-every : goal.returns-in_err-leaf-clause-every
returns-in_err-leaf-clause-every g c t e x text =
    leaf_left c.from_residual.result c.in_err-leaf.field-0.0 t e x c.args.bytes.now text c.from_residual.ensures.1 c.in_err-leaf.ensures.fault

pub returns-clause-every : goal.returns-clause-every
returns-clause-every g c t e x text =
    let leaf = c.in_ok-leaf.leaf in
    let same = leaves_stand_apart leaf.timestamp t (entry_lent leaf.entry) e leaf.extensions.now x c.args.bytes.now c.args.bytes.now [] []
    c.in_ok-leaf.ensures.found text refl in
    ((same.0, c.in_ok-entry.ensures ∙ same.1, c.in_ok-extensions.ensures.items ∙ same.2), tt)
