use Rattle.std.proofs.Common.{sym, ◌∙◌}
use Rattle.shared_table.specs.declared.slots.Slot.{Slot}
use Rattle.shared_table.proofs.Firsts.{found, missed}
use Rattle.shared_table.proofs.search.first_of.Goals as goal

pub returns-then-is_it : goal.returns-then-is_it
returns-then-is_it g c =
    let d : Slot = record { address = 0; place = 0 } in
    found (g.T.Test.passes c.args.test.now) c.args.slots.now c.loop-slot.slot-index c.args.rest d c.loop-slot-test.true c.loop-slot.invariant
    (sym c.is_it.ensures ∙ c.if-is_it.true)

pub loop-slot-preserved : goal.loop-slot-preserved
loop-slot-preserved g c =
    let d : Slot = record { address = 0; place = 0 } in
    missed (g.T.Test.passes c.args.test.now) c.args.slots.now c.loop-slot.slot-index c.args.rest d c.loop-slot-test.true c.loop-slot.invariant
    (sym c.is_it.ensures ∙ c.if-is_it.false)
