use Rattle.std.proofs.Common.{◌∙◌, inl, inr, ap, subst, Err}
use Rattle.ct_core.specs.Replies.{Answer, refused}
use Rattle.ct_lines.specs.Requests.{asked}
use Rattle.ct_lines.specs.Frozen.{Answers}
use Rattle.ct_lines.proofs.Asking.{asked_line, bad_line}
use Rattle.ct_lines.proofs.Built.{answers_built}
use Rattle.ct_lines.proofs.frozen.line_reply.Goals as goal

pub returns-in-Ok-Front : goal.returns-in-Ok-Front
returns-in-Ok-Front c =
    let e = asked_line c.args.log.now c.args.line.now (asked c.in-Ok-Front.field-0) c.in-Ok-Front.ensures.found in
    inr (rw c.in-Ok-Front.field-0-is at e)

pub returns-in-Ok-Operator : goal.returns-in-Ok-Operator
returns-in-Ok-Operator c =
    let e = asked_line c.args.log.now c.args.line.now (asked c.in-Ok-Operator.field-0) c.in-Ok-Operator.ensures.found in
    inr (rw c.in-Ok-Operator.field-0-is at e)

pub returns-in-Ok-Frozen : goal.returns-in-Ok-Frozen
returns-in-Ok-Frozen c =
    let e = asked_line c.args.log.now c.args.line.now (asked c.in-Ok-Frozen.field-0) c.in-Ok-Frozen.ensures.found in
    subst (λ (a : Answer). Answers c.request_reply.result a) (rw c.in-Ok-Frozen.field-0-is at e)
    (answers_built c.request_reply.result _ c.request_reply.ensures)

pub returns : goal.returns
returns c = elim c.in-Err.ensures.refusals [
  | inl e ↦ inr (ap refused e ∙ bad_line c.args.log.now c.args.line.now (c.in-Err.ensures.bad (ap Err e)))
  | inr e ↦ inl e
]
