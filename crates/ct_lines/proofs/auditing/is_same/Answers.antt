use Rattle.std.proofs.Common.{sym, ◌∙◌}
use Rattle.std.proofs.lemmas.Slice.Eq.{bytes_eq-Decides, slice_eq-Decides}
use Rattle.ct_lines.proofs.auditing.is_same.Goals as goal

pub returns-then-eq : goal.returns-then-eq
returns-then-eq c = λ same.
    let leaf = (bytes_eq-Decides c.deref.result.now c.args.leaf_input.now).0 (sym c.eq.ensures ∙ c.if-eq.true) in
    let way = (slice_eq-Decides bytes_eq-Decides c.deref-then-eq.result.now c.args.audit_path.now c.eq-then-eq.result c.eq-then-eq.ensures).0 same in
    (sym c.deref.ensures.value ∙ leaf, sym c.deref-then-eq.ensures.value ∙ way)
