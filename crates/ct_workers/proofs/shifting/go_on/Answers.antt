use Rattle.std.proofs.Common.{sym, subst}
use Rattle.ct_house.specs.House.{HouseState, SettlesMore}
use Rattle.ct_workers.proofs.shifting.go_on.Goals as goal

pub returns-in-Ok-bulletin-clause-settled : goal.returns-in-Ok-bulletin-clause-settled
returns-in-Ok-bulletin-clause-settled g c =
    let (xs, takes) = c.succeed.ensures.taken in
    (xs, subst (λ (s : HouseState). SettlesMore c.args.sequencer.now s xs c.args.now) (sym c.bulletin.ensures.same) (c.succeed.ensures.listed xs takes))
