use Rattle.std.proofs.Common.{◌≡◌, List, length}
use Rattle.std.specs.Arc.{arc_value}
use Rattle.shared_table.specs.declared.slots.Slot.{Slot}
use Rattle.shared_table.specs.Looked.{looked_row, AreParts, AreMore}
use Rattle.shared_table.proofs.table.each_row_with.Given as goal

abbrev pub invariant-loop-index : goal.invariant-loop-index
invariant-loop-index l = (length l.all.items ≡ l.index) × ((slots : List Slot) → AreParts l.parts slots → AreMore l.all.items l.rows (λ p k. looked_row (arc_value p) k) slots l.index)
