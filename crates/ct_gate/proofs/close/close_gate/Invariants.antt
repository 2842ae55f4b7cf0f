use Rattle.std.proofs.Common.{◌≡◌, ◌++◌, [], true, All, map}
use Rattle.std.specs.Vec.Iter.{into_iter_items}
use Rattle.std.specs.Arc.{arc_value}
use Rattle.ct_gate.specs.Closing.{front_tickets}
use Rattle.ct_gate.proofs.close.close_gate.Given as goal

abbrev pub invariant-loop-intake : goal.invariant-loop-intake
invariant-loop-intake g l =
    (goal.iterator-loop-intake g).can_next l.intake-iterator × (goal.iterator-loop-intake g).is_finite l.intake-iterator
    × (l.seat.table_id ≡ (arc_value l.table).shared.table_id) × (l.seat.table_id.words ≡ 1) × (l.seat.me.1 ≡ [])
    × (l.seat.me.0.is_shutter ≡ true) × (l.seat.me.0.accepted ≡ l.accepted)
    × All (λ i. i.gate ≡ l.seat.table_id) (into_iter_items l.intake-iterator)
    × (l.seat.me.0.fronts ++ map front_tickets (into_iter_items l.intake-iterator) ≡ map front_tickets l.fn.intakes.items)
