use Rattle.std.proofs.Common.{List, length, ap, sym, ◌∙◌, subst}
use Rattle.std.specs.Arc.{arc_value}
use Rattle.std.specs.Global.{Global}
use Rattle.std.specs.Prelude.{Vec}
use Rattle.shared_table.specs.declared.slots.Slot.{Slot}
use Rattle.shared_table.specs.Looked.{places_in, below, AreParts}
use Rattle.shared_table.proofs.Sides.{all_parts}
use Rattle.shared_table.proofs.table.buckets_with.Goals as goal

pub each_bucket_with-requires : goal.each_bucket_with-requires
each_bucket_with-requires c = ap length c.deref.ensures.value ∙ c.in_ok-parts.ensures.0

pub returns : goal.returns
returns c = λ a.
    let parts : AreParts c.deref.result.now c.args.slots.now = subst (λ (ps : List _). AreParts ps c.args.slots.now) (sym c.deref.ensures.value) c.in_ok-parts.ensures in
    ap (λ (xs : List _). below xs (λ p k. places_in (arc_value {X = Vec Slot Global} p).items k) a) c.in_ok-all-2.ensures
    ∙ all_parts c.in_ok-all.all.items c.args.buckets.now (λ p k. places_in (arc_value {X = Vec Slot Global} p).items k) c.args.slots.now (c.in_ok-all.ensures c.args.slots.now parts) a
