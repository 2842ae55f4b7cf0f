use Rattle.ct_lines.proofs.PlanLemmas.{operator_added}
use Rattle.ct_lines.proofs.plan.Work.add_operator_task.Goals as goal

pub returns : goal.returns
returns c = λ n ts i. operator_added n c.args.self.now ts c.args.task c.push.new.self c.in_ok-push.ensures.items i
