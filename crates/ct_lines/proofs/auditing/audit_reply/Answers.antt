use Rattle.std.proofs.Common.{◌∙◌, sym, rules}
use Rattle.sha2.specs.Sha256.{sha256}
use Rattle.sha2.proofs.Facts256.{length-sha256}
use Rattle.ct_core.specs.Answers.{first_leaves}
use Rattle.ct_lines.proofs.Audits.{size_known, own_holds, not_accepted, leaves_counted}
use Rattle.ct_lines.proofs.Built.{audit_built, audit_answers}
use Rattle.ct_lines.proofs.auditing.audit_reply.Goals as goal

pub returns-then-not-is_accepted : goal.returns-then-not-is_accepted
returns-then-not-is_accepted c =
    let (sized, within, size, root) = c.in-Some.ensures.some in
    let a = c.args.audit.now in
    let refused = c.is_accepted.ensures (first_leaves c.args.log.now a.tree_size) (leaves_counted c.args.log.now a.tree_size within ∙ sym size) root in
    sym (size_known c.args.log.now a.leaf_input.items a.leaf_index a.tree_size a.audit_path.items sized
    ∙ not_accepted (first_leaves c.args.log.now a.tree_size) a.leaf_input.items a.leaf_index a.audit_path.items (sym refused ∙ c.if-not-is_accepted.true))

pub returns-in_err-is_own : goal.returns-in_err-is_own
returns-in_err-is_own c =
    let (sized, within, size, root) = c.in-Some.ensures.some in
    let a = c.args.audit.now in
    let leads = c.is_accepted.ensures (first_leaves c.args.log.now a.tree_size) (leaves_counted c.args.log.now a.tree_size within ∙ sym size) root in
    let accepted = sym leads ∙ c.if-not-is_accepted.false in
    let built = audit_built c.args.log.now a.leaf_input.items a.leaf_index a.tree_size a.audit_path.items sized accepted in
    search rules

pub returns-then-branch : goal.returns-then-branch
returns-then-branch c =
    let (sized, within, size, root) = c.in-Some.ensures.some in
    let a = c.args.audit.now in
    let leaves = first_leaves c.args.log.now a.tree_size in
    let accepted = c.is_accepted.ensures leaves (leaves_counted c.args.log.now a.tree_size within ∙ sym size) root in
    let none = c.path.ensures.holds sha256 length-sha256 leaves a.leaf_input.items a.leaf_index a.audit_path.items
    (c.in_ok-is_own.ensures.own c.if-branch.true) in
    sym (size_known c.args.log.now a.leaf_input.items a.leaf_index a.tree_size a.audit_path.items sized
    ∙ own_holds leaves a.leaf_input.items a.leaf_index a.audit_path.items (sym accepted ∙ c.if-not-is_accepted.false) none.1)

pub returns-in_err-leaves : goal.returns-in_err-leaves
returns-in_err-leaves c =
    let (sized, within, size, root) = c.in-Some.ensures.some in
    let a = c.args.audit.now in
    let leads = c.is_accepted.ensures (first_leaves c.args.log.now a.tree_size) (leaves_counted c.args.log.now a.tree_size within ∙ sym size) root in
    let accepted = sym leads ∙ c.if-not-is_accepted.false in
    let built = audit_built c.args.log.now a.leaf_input.items a.leaf_index a.tree_size a.audit_path.items sized accepted in
    search rules

pub returns : goal.returns
returns c =
    let (sized, within, size, root) = c.in-Some.ensures.some in
    let a = c.args.audit.now in
    let leads = c.is_accepted.ensures (first_leaves c.args.log.now a.tree_size) (leaves_counted c.args.log.now a.tree_size within ∙ sym size) root in
    let accepted = sym leads ∙ c.if-not-is_accepted.false in
    audit_answers c.args.log.now a.leaf_input.items a.leaf_index a.tree_size a.audit_path.items _ c.verdict.result sized accepted
    (rw c.deref.ensures.value c.in_ok-leaves.ensures.texts) c.verdict.ensures
