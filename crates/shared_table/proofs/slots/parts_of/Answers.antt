use Rattle.std.proofs.Common.{take, subst}
use Rattle.std.proofs.lemmas.List.{take_all, take_more}
use Rattle.shared_table.specs.declared.slots.Slot.{Slot}
use Rattle.shared_table.specs.Looked.{AreParts}
use Rattle.shared_table.proofs.slots.parts_of.Goals as goal

pub loop-slot-preserved : goal.loop-slot-preserved
loop-slot-preserved c =
    let d : Slot = record { address = 0; place = 0 } in
    let i = c.loop-slot.slot-index in
    rw (take_more c.args.slots.now i d c.loop-slot-test.true) (c.in_ok-put.ensures (take i c.args.slots.now) c.loop-slot.invariant)

pub returns : goal.returns
returns c = subst (AreParts c.loop-slot.parts.items) (take_all c.loop-slot.slot-index c.args.slots.now c.loop-slot-test.false) c.loop-slot.invariant
