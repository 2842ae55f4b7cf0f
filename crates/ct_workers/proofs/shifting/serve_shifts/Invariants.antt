use Rattle.std.proofs.Common.{◌≡◌, ◌++◌, length}
use Rattle.std.specs.Vec.Iter.{into_iter_items}
use Rattle.ct_workers.specs.Shifts.{DoShifts, start_of}
use Rattle.ct_workers.proofs.shifting.serve_shifts.Given as goal

abbrev pub invariant-loop-shift : goal.invariant-loop-shift
invariant-loop-shift g l =
    (goal.iterator-loop-shift g).can_next l.shift-iterator × (goal.iterator-loop-shift g).is_finite l.shift-iterator
    × (l.yielded ++ into_iter_items l.shift-iterator ≡ l.fn.shifts.items)
    × DoShifts 1 (start_of l.fn.house) l.yielded (start_of l.house) × (l.number ≡ length l.yielded)
