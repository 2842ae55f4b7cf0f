use Rattle.std.proofs.Common.{[], ap, inl, length, refl, ◌∙◌}
use Rattle.ct_house.specs.House.{LaneView}
use Rattle.ct_house.proofs.LaneLemmas.{LaneTakes-none, of_hashed, so_many}
use Rattle.ct_house.proofs.lane.LaneOwner.settle_first.Goals as goal

pub returns-in-Err-clause-settled : goal.returns-in-Err-clause-settled
returns-in-Err-clause-settled g c = ([], LaneTakes-none c.args.self.now c.args.core.now c.args.now, inl refl)

pub returns-clause-settled : goal.returns-clause-settled
returns-clause-settled g c =
    let (xs, takes, count) = c.settle_hashed.ensures.settled in
    let hand = ap (λ (l : LaneView). l.hand) c.self.view_is in
    let few = c.requires.few in
    let many = so_many _ c.args.count c.self.inside.hand.items c.in-Ok.hashes.items c.in-Ok.ensures.hashes (rw hand few) in
    (xs, takes, of_hashed c.settle_hashed.result xs (length c.deref.result.now) c.args.count (ap length c.deref.ensures.value ∙ many) count)
