use Rattle.std.proofs.Common.{◌≡◌, ◌∙◌, length, sym, subst, arith, ap, length-append}
use Rattle.std.specs.Prelude.{Option, MatchOption}
use Rattle.ct_codec.specs.Bytes.{num}
use Rattle.ct_codec.proofs.Refusals.{length-num}
use Rattle.ct_tree.specs.declared.head.Head.{Head}
use Rattle.libwagtenib.specs.Guard.{IsStateOf, IsOfNoHead}
use Rattle.libwagtenib.proofs.States.{too_short, too_long, some_left, begins}
use Rattle.libwagtenib.proofs.head.read_state.Goals as goal
use Rattle.libwagtenib.proofs.head.read_state.Goals.{else-version-eq0-via-then-version-eq0+then-signature_type-eq1+else-is_at_end, else-version-eq0-via-then-version-eq0+else-signature_type-eq1, else-version-eq0-via-else-version-eq0}

pub returns-in_err-tree_size : goal.returns-in_err-tree_size
returns-in_err-tree_size c =
    subst (λ (o : Option Head). MatchOption o (IsOfNoHead c.args.bytes.now) (λ head. IsStateOf head c.args.bytes.now)) (sym c.from_residual-in_err-tree_size.ensures)
    (too_short c.args.bytes.now c.number_1.new.self c.number_1-2.new.self c.number_8.new.self c.in_ok-version.version c.in_ok-signature_type.signature_type
    c.in_ok-timestamp.timestamp (sym c.new-fields.ensures ∙ c.in_ok-version.ensures.some) c.in_ok-signature_type.ensures.some c.in_ok-timestamp.ensures.some
    (omega (arith, c.in_err-tree_size.ensures.none)))

pub returns-in_err-root : goal.returns-in_err-root
returns-in_err-root c =
    let size = c.in_ok-tree_size.ensures.some in
    subst (λ (o : Option Head). MatchOption o (IsOfNoHead c.args.bytes.now) (λ head. IsStateOf head c.args.bytes.now)) (sym c.from_residual-in_err-root.ensures)
    (too_short c.args.bytes.now c.number_1.new.self c.number_1-2.new.self c.number_8.new.self c.in_ok-version.version c.in_ok-signature_type.signature_type
    c.in_ok-timestamp.timestamp (sym c.new-fields.ensures ∙ c.in_ok-version.ensures.some) c.in_ok-signature_type.ensures.some c.in_ok-timestamp.ensures.some
    (omega (arith, ap length size, length-append (num 8 c.in_ok-tree_size.tree_size) c.number_8-2.new.self, length-num 8 c.in_ok-tree_size.tree_size, c.in_err-root.ensures.none)))

pub returns-else-version-eq0 : goal.returns-else-version-eq0
returns-else-version-eq0 c =
    let whole = sym c.new-fields.ensures ∙ c.in_ok-version.ensures.some in
    let root = c.in_ok-root.ensures.some in
    elim c.else-version-eq0.branch [
      | else-version-eq0-via-then-version-eq0+then-signature_type-eq1+else-is_at_end w ↦
          too_long c.args.bytes.now c.number_1.new.self c.number_1-2.new.self c.number_8.new.self c.number_8-2.new.self c.in_ok-root.root.now c.key_hash.new.self
          c.in_ok-version.version c.in_ok-signature_type.signature_type c.in_ok-timestamp.timestamp c.in_ok-tree_size.tree_size whole
          c.in_ok-signature_type.ensures.some c.in_ok-timestamp.ensures.some c.in_ok-tree_size.ensures.some root.0 root.1
          (some_left c.key_hash.new.self (sym w.is_at_end.ensures ∙ w.if-is_at_end.false))
      | else-version-eq0-via-then-version-eq0+else-signature_type-eq1 w ↦ λ head s.
          absurd (w.if-signature_type-eq1.false (begins c.args.bytes.now c.number_1.new.self c.number_1-2.new.self c.in_ok-version.version c.in_ok-signature_type.signature_type whole c.in_ok-signature_type.ensures.some head s).1)
      | else-version-eq0-via-else-version-eq0 w ↦ λ head s.
          absurd (w.if-version-eq0.false (begins c.args.bytes.now c.number_1.new.self c.number_1-2.new.self c.in_ok-version.version c.in_ok-signature_type.signature_type whole c.in_ok-signature_type.ensures.some head s).0)
    ]
