use Rattle.std.proofs.Common.{◌≡◌, ◌≤◌, ◌+◌, ◌++◌, length, vec_len, vec_capacity}
use Rattle.std.specs.Vec.Iter.{into_iter_items}
use Rattle.ct_workers.proofs.closing.retire_all.Given as goal

abbrev pub invariant-loop-front : goal.invariant-loop-front
invariant-loop-front l =
    goal.iterator-loop-front.can_next l.front-iterator × goal.iterator-loop-front.is_finite l.front-iterator
    × (l.ends.items ++ into_iter_items l.front-iterator ≡ l.fn.fronts.items)
    × (vec_len l.ends + length (into_iter_items l.front-iterator) ≤ vec_capacity l.ends)
