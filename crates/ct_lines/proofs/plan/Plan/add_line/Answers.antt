use Rattle.std.proofs.Common.{◌<◌, ℕ, length, arith, [], ◌∷◌, subst, sym}
use Rattle.std.proofs.lemmas.Grind.{common_steps}
use Rattle.ct_lines.specs.Tasks.{step}
use Rattle.ct_lines.specs.Tasks.{IsForThere}
use Rattle.ct_lines.proofs.PlanLemmas.{there_anyway}
use Rattle.ct_lines.proofs.ReadingLemmas.{asked_once}
use Rattle.ct_lines.proofs.plan.Plan.add_line.Goals as goal

pub add-requires : goal.add-requires
add-requires c = λ other.
    subst (λ (n : ℕ). IsForThere n (step other c.in_ok-task.task)) (sym c.requires)
    (there_anyway c.args.fronts c.args.line.now other c.in_ok-task.task c.in_ok-task.ensures.there)

pub returns-in_ok-add-clause-taken : goal.returns-in_ok-add-clause-taken
returns-in_ok-add-clause-taken c =
    let some : 0 < length c.args.line.now = grind (arith, common_steps) in
    let line = c.args.line.now in
    let t = step line c.in_ok-task.task in
    λ ss given. (
      t ∷ [],
      asked_once c.args.fronts line t some c.in_ok-task.ensures.asked,
      c.in_ok-add.ensures c.args.fronts ss line c.in_ok-task.ensures.frozen given,
    )
