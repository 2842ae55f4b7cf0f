use Rattle.std.proofs.Common.{◌∙◌}
use Rattle.ct_lines.proofs.Judged.{accepted-judged}
use Rattle.ct_lines.proofs.auditing.is_accepted.Goals as goal

pub returns : goal.returns
returns c = λ D sized rooted.
    let a = c.args.audit.now in
    let checked = rw (c.leaf_hash-hash.ensures, c.deref.ensures.value, c.deref-2.ensures.value, ← sized, rooted) at c.verify_inclusion-checked.ensures in
    c.is_ok.ensures.value
    ∙ accepted-judged D a.leaf_input.items a.leaf_index a.audit_path.items c.verify_inclusion-checked.result c.path.ensures.not_refused checked
