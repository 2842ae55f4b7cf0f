use Rattle.std.proofs.Common.{◌∙◌}
use Rattle.std.specs.Arc.{arc_value}
use Rattle.ct_core.proofs.AdoptSteps.{opens}
use Rattle.ct_core.proofs.sequencing.Core.open.Goals as goal

pub invariant_of-result : goal.invariant_of-result
invariant_of-result c =
    let all = opens (arc_value c.in_ok-published.published) c.new-2.result.keys c.new-3.result.items c.args.now
    (c.in_ok-published.ensures.ok ∙ c.in_ok-open.ensures.fresh) c.new-2.ensures.empty c.new-3.ensures.items in
    all.core

pub returns-clause-fresh : goal.returns-clause-fresh
returns-clause-fresh c =
    let all = opens (arc_value c.in_ok-published.published) c.new-2.result.keys c.new-3.result.items c.args.now
    (c.in_ok-published.ensures.ok ∙ c.in_ok-open.ensures.fresh) c.new-2.ensures.empty c.new-3.ensures.items in
    all.fresh

pub returns-clause-settled : goal.returns-clause-settled
returns-clause-settled c =
    let all = opens (arc_value c.in_ok-published.published) c.new-2.result.keys c.new-3.result.items c.args.now
    (c.in_ok-published.ensures.ok ∙ c.in_ok-open.ensures.fresh) c.new-2.ensures.empty c.new-3.ensures.items in
    all.settled

pub returns-clause-lawful : goal.returns-clause-lawful
returns-clause-lawful c =
    let all = opens (arc_value c.in_ok-published.published) c.new-2.result.keys c.new-3.result.items c.args.now
    (c.in_ok-published.ensures.ok ∙ c.in_ok-open.ensures.fresh) c.new-2.ensures.empty c.new-3.ensures.items in
    all.core.lawful
