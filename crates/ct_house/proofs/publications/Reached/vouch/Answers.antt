use Rattle.std.proofs.Common.{subst}
use Rattle.ct_core.specs.Settlement.{Lawful}
use Rattle.ct_house.specs.Publications.{Reach}
use Rattle.ct_house.proofs.publications.Reached.vouch.Goals as goal

pub returns : goal.returns
returns c = subst (λ (r : Reach). Lawful r.last.state) c.self.view_is c.self.invariant.2
