use Rattle.std.proofs.Common.{List, ℕ, subst, sym}
use Rattle.std.proofs.lemmas.Result.{on_ok_weaker, IfErr-weaker}
use Rattle.ct_lines.specs.declared.request.FrozenRequest.{FrozenRequest}
use Rattle.ct_workers.specs.Output.{AreFrozenLines, begun}
use Rattle.ct_workers.specs.Shifts.{start_of}
use Rattle.ct_lines.specs.Plans.{AreForFronts}
use Rattle.ct_lines.specs.Steps.{frozen_lines}
use Rattle.ct_workers.proofs.StartLemmas.{new_fronts, new_count}
use Rattle.ct_workers.proofs.OutputLemmas.{plan_lines}
use Rattle.ct_lines.proofs.PlanLemmas.{for_fronts}
use Rattle.ct_workers.proofs.script.serve.Goals as goal

pub serve_parties_and_log-requires-clause-fronts : goal.serve_parties_and_log-requires-clause-fronts
serve_parties_and_log-requires-clause-fronts g c κs within =
    new_fronts c.args.options.fronts c.args.options.ring c.args.options.open_at (start_of c.in_ok-house.house) c.in_ok-house.ensures.house
    c.args.options.some_fronts

pub serve_parties_and_log-requires-clause-work : goal.serve_parties_and_log-requires-clause-work
serve_parties_and_log-requires-clause-work g c κs within =
    let (ss, steps, i, frozen) = c.in_ok-shifts.ensures.plan in
    subst (λ (n : ℕ). AreForFronts n c.in_ok-shifts.field-0.shifts.items c.in_ok-shifts.field-0.last)
    (new_count c.args.options.fronts c.args.options.ring c.args.options.open_at (start_of c.in_ok-house.house) c.in_ok-house.ensures.house)
    (for_fronts c.args.options.fronts c.in_ok-shifts.field-0.shifts.items c.in_ok-shifts.field-0.last ss i.given)

pub returns-clause-served : goal.returns-clause-served
returns-clause-served g c =
    let (ss, steps, i, frozen) = c.in_ok-shifts.ensures.plan in
    let shifts = c.in_ok-shifts.field-0.shifts.items in
    let last = c.in_ok-shifts.field-0.last in
    let start = start_of c.in_ok-house.house in
    on_ok_weaker c.serve_parties_and_log.result (λ whole. record {
      steps = ss;
      shifts = shifts;
      last = last;
      start = start;
      of_input = steps;
      given = i.given;
      of_house = c.in_ok-house.ensures.house;
      written = whole (frozen_lines ss) (subst (λ (l : List FrozenRequest). AreFrozenLines l (frozen_lines ss)) (sym c.deref.ensures.value)
          (plan_lines c.args.options.fronts c.in_ok-shifts.field-0 ss i frozen));
    }) c.serve_parties_and_log.ensures.all

pub returns-clause-begun : goal.returns-clause-begun
returns-clause-begun g c =
    let (ss, steps, i, frozen) = c.in_ok-shifts.ensures.plan in
    let shifts = c.in_ok-shifts.field-0.shifts.items in
    let last = c.in_ok-shifts.field-0.last in
    let start = start_of c.in_ok-house.house in
    IfErr-weaker c.serve_parties_and_log.result _ _ (λ f some. begun ss shifts last start steps i.given c.in_ok-house.ensures.house
    (some (frozen_lines ss) (subst (λ (l : List FrozenRequest). AreFrozenLines l (frozen_lines ss)) (sym c.deref.ensures.value)
    (plan_lines c.args.options.fronts c.in_ok-shifts.field-0 ss i frozen)))) c.serve_parties_and_log.ensures.some
