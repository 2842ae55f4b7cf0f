use Rattle.std.proofs.Common.{Bool, subst, sym}
use Rattle.std.specs.Prelude.{IsTrue}
use Rattle.ct_names.specs.InBytes.{StandsIn}
use Rattle.ct_names.proofs.Standing.{stands}
use Rattle.ct_names.proofs.in_bytes.is_in.Goals as goal

pub returns : goal.returns
returns c =
    subst (λ (b : Bool). (IsTrue b → StandsIn c.args.bytes.now c.args.text.now) × (StandsIn c.args.bytes.now c.args.text.now → IsTrue b)) (sym c.is_some.ensures)
    (stands c.args.bytes.now c.args.text.now c.find.result c.find.ensures)
