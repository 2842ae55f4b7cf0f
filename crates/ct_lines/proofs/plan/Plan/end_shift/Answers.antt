use Rattle.std.proofs.Common.{sym, subst, ◌∙◌, []}
use Rattle.ct_lines.specs.Plans.{IsWorkOf}
use Rattle.ct_lines.specs.declared.plan.Work.{Work}
use Rattle.ct_lines.proofs.PlanLemmas.{plan_ends_shift}
use Rattle.ct_lines.proofs.plan.Plan.end_shift.Goals as goal

pub returns : goal.returns
returns c = λ n ss i.
    plan_ends_shift n c.len.result c.args.self.now c.replace-work.new.dest c.push.new.self ss (record { work = c.replace-work.result; now = c.args.now })
    c.replace-work.ensures.value
    (c.len.ensures ∙ c.args.self.now.last.fronts.ok.0)
    (subst (λ (w : Work). IsWorkOf c.len.result w []) (sym c.replace-work.ensures.after) c.in_ok-next.ensures) c.in_ok-push.ensures.items i
