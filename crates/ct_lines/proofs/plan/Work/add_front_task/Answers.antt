use Rattle.ct_lines.proofs.PlanLemmas.{front_added}
use Rattle.ct_lines.proofs.plan.Work.add_front_task.Goals as goal

pub returns : goal.returns
returns c = λ n ts i.
    front_added n c.args.self.now ts c.args.number c.index_mut-tasks.result.now c.push.new.self c.args.task c.requires c.index_mut-tasks.ensures.value
    c.in_ok-push.ensures.items i
