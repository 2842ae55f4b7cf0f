use Rattle.std.proofs.Common.{take}
use Rattle.shared_table.specs.Looked.{AreParts}
use Rattle.shared_table.proofs.slots.parts_of.Given as goal

abbrev pub invariant-loop-slot : goal.invariant-loop-slot
invariant-loop-slot l = AreParts l.parts.items (take l.slot-index l.slots)
