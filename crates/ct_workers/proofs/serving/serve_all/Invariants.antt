use Rattle.std.proofs.Common.{◌≡◌, ◌++◌}
use Rattle.std.specs.Vec.Iter.{into_iter_items}
use Rattle.ct_workers.specs.Serving.{ServesAll}
use Rattle.ct_workers.proofs.serving.serve_all.Given as goal

abbrev pub invariant-loop-task : goal.invariant-loop-task
invariant-loop-task g l =
    (goal.iterator-loop-task g).can_next l.task-iterator × (goal.iterator-loop-task g).is_finite l.task-iterator
    × (l.yielded ++ into_iter_items l.task-iterator ≡ l.fn.tasks.items)
    × ServesAll g.P.Party.does l.fn.party l.yielded l.fn.replies.items l.party l.replies.items
