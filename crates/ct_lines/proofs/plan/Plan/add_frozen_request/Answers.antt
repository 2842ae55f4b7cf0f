use Rattle.ct_lines.proofs.PlanLemmas.{frozen_added}
use Rattle.ct_lines.proofs.plan.Plan.add_frozen_request.Goals as goal

pub returns : goal.returns
returns c = λ n ss line is i. frozen_added n c.args.self.now ss line c.args.request c.push.new.self c.in_ok-push.ensures.items is i
