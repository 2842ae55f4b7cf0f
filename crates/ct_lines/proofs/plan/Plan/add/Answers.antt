use Rattle.std.proofs.Common.{[], refl}
use Rattle.ct_lines.proofs.PlanLemmas.{plan_does}
use Rattle.ct_lines.proofs.plan.Plan.add.Goals as goal

pub add_front_task-requires : goal.add_front_task-requires
add_front_task-requires c = rw c.in-Front.is at (c.requires [])

pub returns-in_ok-add_front_task-in-Front : goal.returns-in_ok-add_front_task-in-Front
returns-in_ok-add_front_task-in-Front c =
    rw c.in-Front.is (λ n ss line own i. plan_does n c.args.self.now _ ss _ refl (λ ts w. c.in_ok-add_front_task-in-Front.ensures n ts w) i)

pub returns-in_ok-add_operator_task-in-Operator : goal.returns-in_ok-add_operator_task-in-Operator
returns-in_ok-add_operator_task-in-Operator c =
    rw c.in-Operator.is (λ n ss line own i. plan_does n c.args.self.now _ ss _ refl (λ ts w. c.in_ok-add_operator_task-in-Operator.ensures n ts w) i)

pub returns-in_ok-add_frozen_request-in-Frozen : goal.returns-in_ok-add_frozen_request-in-Frozen
returns-in_ok-add_frozen_request-in-Frozen c = rw c.in-Frozen.is c.in_ok-add_frozen_request-in-Frozen.ensures

pub returns-in_ok-end_shift-in-EndsShift : goal.returns-in_ok-end_shift-in-EndsShift
returns-in_ok-end_shift-in-EndsShift c = rw c.in-EndsShift.is (λ n ss line own i. c.in_ok-end_shift-in-EndsShift.ensures n ss i)
