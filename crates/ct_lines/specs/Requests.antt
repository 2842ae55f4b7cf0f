-- The requests, from the code's types to plain data.
use Rattle.std.specs.Prelude.{map}
use Rattle.ct_lines.specs.Asked.{Asked, by_front, by_operator, by_frozen, FrontAsked, add_chain, add_pre_chain, await_size, front_query, OperatorAsked}
use Rattle.ct_lines.specs.Asked.{sequence, publish, shutdown, shift, AuditAsked, audit, FrozenAsked, frozen_query, frozen_audit, Who, front, operator, frozen}
use Rattle.ct_lines.specs.declared.reading.Who.{Who as CodeWho}
use Rattle.ct_lines.specs.declared.reading.Who.TheVariants as who_case
use Rattle.ct_lines.specs.declared.request.FrontRequest.{FrontRequest}
use Rattle.ct_lines.specs.declared.request.FrontRequest.TheVariants as front_case
use Rattle.ct_lines.specs.declared.request.OperatorRequest.{OperatorRequest}
use Rattle.ct_lines.specs.declared.request.OperatorRequest.TheVariants as operator_case
use Rattle.ct_lines.specs.declared.request.Audit.{Audit}
use Rattle.ct_lines.specs.declared.request.FrozenRequest.{FrozenRequest}
use Rattle.ct_lines.specs.declared.request.FrozenRequest.TheVariants as frozen_case
use Rattle.ct_lines.specs.declared.request.Request.{Request}
use Rattle.ct_lines.specs.declared.request.Request.TheVariants as request_case

-- a front's request
abbrev pub front_asked : FrontRequest → FrontAsked
front_asked (front_case.AddChain chain) = add_chain (map (λ c. c.items) chain.items)
front_asked (front_case.AddPreChain hash tbs chain) = add_pre_chain hash tbs.items (map (λ c. c.items) chain.items)
front_asked (front_case.AwaitSize n) = await_size n
front_asked (front_case.Ask q) = front_query q

-- the operator's request
abbrev pub operator_asked : OperatorRequest → OperatorAsked
operator_asked (operator_case.Sequence from count now) = sequence from count now
operator_asked (operator_case.Publish now) = publish now
operator_asked operator_case.Shutdown = shutdown
operator_asked (operator_case.Shift now) = shift now

-- the proof of inclusion that will be audited
abbrev pub audit_of : Audit → AuditAsked
audit_of a = audit a.leaf_input.items a.leaf_index a.tree_size a.audit_path.items

-- the request of a reader of the frozen log
abbrev pub frozen_asked : FrozenRequest → FrozenAsked
frozen_asked (frozen_case.Ask q) = frozen_query q
frozen_asked (frozen_case.Audit a) = frozen_audit (audit_of a)

-- a request with its requester, as plain data
abbrev pub asked : Request → Asked
asked (request_case.Front n r) = by_front n (front_asked r)
asked (request_case.Operator r) = by_operator (operator_asked r)
asked (request_case.Frozen r) = by_frozen (frozen_asked r)

-- the requester
abbrev pub who : CodeWho → Who
who (who_case.Front n) = front n
who who_case.Operator = operator
who who_case.Frozen = frozen
