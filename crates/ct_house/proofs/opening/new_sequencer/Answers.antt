use Rattle.std.proofs.Common.{◌∙◌, sym, refl, arith, map, []}
use Rattle.ct_house.specs.Sights.{Sight}
use Rattle.ct_house.specs.House.{new_front}
use Rattle.ct_house.proofs.OpeningLemmas.{opened, new_lanes, new_numbers, sequences_none}
use Rattle.ct_house.proofs.opening.new_sequencer.Goals as goal

pub invariant_of-sequencer : goal.invariant_of-sequencer
invariant_of-sequencer g c =
    let t = c.in_ok-gate.gate in
    let (outlets, new, lanes) = c.in_ok-gate.ensures.fronts in
    let n = new_numbers t.shutter.gate c.args.ring c.args.fronts t.intakes.items outlets t.lanes.items new lanes in
    let empty = new_lanes t.shutter.gate c.args.ring c.args.fronts t.intakes.items outlets t.lanes.items new lanes in
    let count = n.1 in
    let few = c.requires.fronts in
    let room = c.in_ok-gate.ensures.room in
    let log = c.in_ok-core.ensures in
    record {
      lawful = log.lawful;
      listed = ([], sequences_none _ c.args.fronts log.settled empty);
      shown = c.in_ok-shelf.ensures.seen ∙ log.shared;
      fronts = c.in_ok-gate.ensures.shutter.0 ∙ sym count;
      numbers = n.0;
      few = omega arith;
      nothing = room.0;
      room = omega arith;
    }

pub returns-clause-fresh : goal.returns-clause-fresh
returns-clause-fresh g c =
    let t = c.in_ok-gate.gate in
    let (outlets, new, lanes) = c.in_ok-gate.ensures.fronts in
    let log = c.in_ok-core.ensures in
    let v : Sight = record { series = c.in_ok-shelf.shelf.series; seen = c.in_ok-core.core.published } in
    opened t.shutter.gate v c.args.ring c.args.fronts c.args.now t.intakes.items outlets t.lanes.items (map (new_front v) t.intakes.items)
    c.in_ok-core.core t.shutter.accepted new lanes refl log.fresh c.in_ok-gate.ensures.shutter.1 refl

pub returns-clause-sequences : goal.returns-clause-sequences
returns-clause-sequences g c = let new = returns-clause-fresh g c in sequences_none _ c.args.fronts c.in_ok-core.ensures.settled new.lanes
