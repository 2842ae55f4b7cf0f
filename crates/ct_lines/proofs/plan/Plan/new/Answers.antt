use Rattle.std.proofs.Common.{subst, ℕ, []}
use Rattle.ct_lines.specs.Plans.{IsWorkOf}
use Rattle.ct_lines.proofs.PlanLemmas.{plan_new}
use Rattle.ct_lines.proofs.plan.Plan.new.Goals as goal

pub returns : goal.returns
returns c =
    plan_new c.args.fronts (record { shifts = c.new-2.result; last = c.in_ok-last.last; frozen = c.new-3.result }) c.new-2.ensures.items c.new-3.ensures.items
    (subst (λ (n : ℕ). IsWorkOf n c.in_ok-last.last []) c.from.ensures c.in_ok-last.ensures)
