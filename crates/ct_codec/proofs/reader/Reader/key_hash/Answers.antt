use Rattle.std.proofs.Common.{sym, ◌∙◌}
use Rattle.ct_codec.proofs.Leaves.{field_front, field_length}
use Rattle.ct_codec.proofs.reader.Reader.key_hash.Goals as goal

pub returns-clause-some : goal.returns-clause-some
returns-clause-some c =
    let cases = c.in_ok-field.ensures.cases in (
      field_length 32 c.self.inside.rest.now c.in_ok-field.field.now c.in_ok-field.rest.now cases.0 cases.2,
      sym c.self.view_is ∙ field_front 32 c.self.inside.rest.now c.in_ok-field.field.now c.in_ok-field.rest.now cases.0 cases.1,
    )
