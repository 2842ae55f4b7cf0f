use Rattle.std.proofs.Common.{refl}
use Rattle.ct_house.specs.LaneFields.{lane_view}
use Rattle.ct_house.proofs.LaneLemmas.{LaneFills-none, LaneFills-one, LaneFills-join}
use Rattle.ct_house.proofs.lane.LaneOwner.receive.Goals as goal

pub returns-clause-fills : goal.returns-clause-fills
returns-clause-fills c =
    let one = lane_view (record { hand = c.push_back_reserved.new.self; outlet = c.drain_step.new.self }) in
    LaneFills-join c.args.self.now one c.fill.new.self
    (rw (← c.self.view_is) (LaneFills-one (lane_view c.self.inside) one c.in-Some.item c.drain_step.ensures.same.0.0 c.drain_step.ensures.same.0.1
    c.in-Some.ensures.next c.push_back_reserved.ensures.items)) c.fill.ensures.fills

pub returns-in-None-clause-fills : goal.returns-in-None-clause-fills
returns-in-None-clause-fills c =
    let a = c.self.inside in
    let new = lane_view (record { hand = a.hand; outlet = c.drain_step.new.self }) in
    let same = c.drain_step.ensures.same.0 in
    rw (← c.self.view_is) (LaneFills-none (lane_view a) new same.0 same.1 c.in-None.ensures.next refl)
