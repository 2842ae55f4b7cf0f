use Rattle.std.proofs.Common.{ℕ, List, ◌++◌, ap, ◌∙◌}
use Rattle.std.specs.Vec.Iter.{into_iter_items}
use Rattle.ct_workers.proofs.TurnLemmas.{cut_on, serves_none, serves_more}
use Rattle.ct_workers.proofs.serving.serve_all.Goals as goal

pub loop-task-init : goal.loop-task-init
loop-task-init g c = (tt, tt, c.into_iter-task-iterator.ensures.into_iter_gives.0, serves_none g.P.Party.does _ _)

pub loop-task-preserved : goal.loop-task-preserved
loop-task-preserved g c =
    let (t, u, split, served) = c.loop-task.invariant in (
      tt,
      tt,
      cut_on c.args.tasks.items c.loop-task.yielded (into_iter_items c.loop-task.task-iterator) c.in-Some.task (into_iter_items c.next.new.self) split
          c.in-Some.ensures.steps.0,
      serves_more g.P.Party.does _ _ _ c.loop-task.yielded c.in-Some.task _ _ _ _ served c.in_ok-reply.ensures
          (c.in_ok-extend_from_slice.ensures.items ∙ ap (λ (l : List ℕ). c.loop-task.replies.items ++ l) c.deref.ensures.value),
    )
