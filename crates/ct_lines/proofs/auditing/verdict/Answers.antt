use Rattle.std.proofs.Common.{map, ◌∙◌}
use Rattle.ct_lines.proofs.Judged.{verdict-evidence, verdict-fault}
use Rattle.ct_lines.proofs.auditing.verdict.Goals as goal

pub returns-in-Ok : goal.returns-in-Ok
returns-in-Ok c =
    let e = rw (c.deref.ensures.value, c.deref-2.ensures.value) at c.in-Ok.ensures.explained in
    c.evidence_reply.ensures ∙ verdict-evidence (map (λ l. l.items) c.args.leaves.now) c.args.audit.now.leaf_input.items c.args.audit.now.leaf_index
    c.args.audit.now.audit_path.items c.in-Ok.evidence e

pub returns-in-Err : goal.returns-in-Err
returns-in-Err c =
    let e = rw (c.deref.ensures.value, c.deref-2.ensures.value) at c.in-Err.ensures.explained in
    verdict-fault (map (λ l. l.items) c.args.leaves.now) c.args.audit.now.leaf_input.items c.args.audit.now.leaf_index c.args.audit.now.audit_path.items
    c.in-Err.fault c.from.result.reply c.path.ensures.not_refused e c.from.ensures
