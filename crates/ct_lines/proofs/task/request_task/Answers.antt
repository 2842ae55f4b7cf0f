use Rattle.ct_lines.proofs.task.request_task.Goals as goal

pub returns-in-Front : goal.returns-in-Front
returns-in-Front c = rw c.in-Front.is (λ line is. c.front_request_task.ensures line)

pub returns-in-Operator : goal.returns-in-Operator
returns-in-Operator c = rw c.in-Operator.is (λ line is. c.operator_request_task.ensures line)
