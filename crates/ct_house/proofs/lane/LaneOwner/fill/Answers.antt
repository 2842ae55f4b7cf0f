use Rattle.std.proofs.Common.{refl, arith}
use Rattle.ct_house.specs.LaneFields.{lane_view}
use Rattle.ct_house.specs.declared.lane.LaneOwner.TheInside.{Inside}
use Rattle.ct_house.proofs.LaneLemmas.{IsLane-more, LaneFills-none, LaneFills-one, LaneFills-join}
use Rattle.ct_house.proofs.lane.LaneOwner.fill.Goals as goal

pub loop-self-preserved : goal.loop-self-preserved
loop-self-preserved c =
    let was = c.loop-self.self-inside in
    let new : Inside = record { hand = c.push_back_reserved.new.self; outlet = c.take.new.self } in
    let (fills, lane) = c.loop-self.invariant in
    let same = c.take.ensures.same in (
      LaneFills-join (lane_view c.self.inside) (lane_view was) (lane_view new) fills
          (LaneFills-one (lane_view was) (lane_view new) c.in-Some.item same.0 same.1 c.in-Some.ensures.next c.push_back_reserved.ensures.items),
      IsLane-more was new c.in-Some.item lane c.push_back_reserved.ensures.items (omega arith) c.push_back_reserved.ensures.capacity
          c.in-Some.ensures.numbered same.0,
    )

pub returns-in-None : goal.returns-in-None
returns-in-None c =
    let was = c.loop-self.self-inside in
    let new : Inside = record { hand = was.hand; outlet = c.take.new.self } in
    let (fills, lane) = c.loop-self.invariant in
    let same = c.take.ensures.same in
    rw (← c.self.view_is) (record {
      fills = LaneFills-join (lane_view c.self.inside) (lane_view was) (lane_view new) fills
          (LaneFills-none (lane_view was) (lane_view new) same.0 same.1 c.in-None.ensures.next refl);
    })
