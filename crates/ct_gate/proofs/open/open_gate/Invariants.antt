use Rattle.std.proofs.Common.{◌≡◌, ◌-◌, [], true}
use Rattle.std.specs.Arc.{arc_value}
use Rattle.ct_gate.specs.Opening.{view_of_fronts, new_fronts, AreNewFronts}
use Rattle.ct_gate.proofs.open.open_gate.Given as goal

abbrev pub invariant-loop-number : goal.invariant-loop-number
invariant-loop-number l =
    (l.seat.table_id ≡ (arc_value l.table).shared.table_id) × (l.seat.table_id.words ≡ 1) × (l.seat.table_id.slots ≡ 0)
    × ((arc_value l.table).shared.key ≡ l.fronts)
    × (l.seat.me ≡ (view_of_fronts (new_fronts l.number (l.fronts - l.number)) true, []))
    × AreNewFronts l.seat.table_id l.ring l.number l.intakes.items l.outlets.items
