use Rattle.std.proofs.Common.{◌∙◌, sym, ap}
use Rattle.ct_core.specs.Replies.{shown, shown_text}
use Rattle.ct_lines.proofs.Audits.{own_audited}
use Rattle.ct_lines.proofs.auditing.is_own.Goals as goal

pub returns-clause-own : goal.returns-clause-own
returns-clause-own c = λ same.
    let (leaf, way) = c.is_same.ensures same in
    let own = own_audited c.args.log.now c.args.audit.now.leaf_index c.args.audit.now.tree_size (shown_text c.in-EntryAndProof.entry)
    c.in-EntryAndProof.audit_path.items
    c.requires.sized c.requires.below (sym (ap shown c.in-EntryAndProof.is) ∙ c.in_ok-entry.ensures.answer) in
    (own.0, leaf ∙ c.deref.ensures.value ∙ own.1, way ∙ c.deref-in-EntryAndProof.ensures.value ∙ own.2)
