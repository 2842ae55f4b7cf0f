use Rattle.std.proofs.Common.{ap, sym, ◌∙◌, subst}
use Rattle.std.specs.Arc.{arc_value}
use Rattle.ct_core.specs.Settlement.{Lawful}
use Rattle.ct_core.specs.Core.{CoreState}
use Rattle.ct_core.proofs.AdoptSteps.{adoptable, adopted_head}
use Rattle.ct_core.proofs.sequencing.Core.publish.Goals as goal

pub adopt-requires : goal.adopt-requires
adopt-requires c = adoptable c.args.self.now c.args.now c.in_ok-next.next (arc_value c.in_ok-shared.shared) c.in_ok-next.ensures.in_time c.in_ok-next.ensures.state
    c.in_ok-shared.ensures.ok

pub returns-clause-head : goal.returns-clause-head
returns-clause-head c = (
  adopted_head c.args.self.now c.args.now c.in_ok-next.next (arc_value c.in_ok-shared.shared) c.adopt.result c.in_ok-next.ensures.state
      c.in_ok-shared.ensures.ok c.adopt.ensures.state,
  c.adopt.ensures.after,
)

pub returns-clause-lawful : goal.returns-clause-lawful
returns-clause-lawful c = subst Lawful (sym c.in_ok-shared.ensures.ok ∙ c.adopt.ensures.state ∙ sym (ap (λ (s : CoreState). s.published) c.adopt.ensures.after))
    c.in_ok-next.ensures.lawful
