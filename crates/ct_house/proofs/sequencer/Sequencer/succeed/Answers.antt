use Rattle.std.proofs.Common.{◌≡◌, [], ap, arith}
use Rattle.ct_house.specs.House.{FrontView}
use Rattle.ct_house.proofs.SequencerLemmas.{Takes-none, Takes-settles, lane_below}
use Rattle.ct_house.proofs.sequencer.Sequencer.succeed.Goals as goal

pub returns-then-now-clock-clause-taken : goal.returns-then-now-clock-clause-taken
returns-then-now-clock-clause-taken g c = ([], Takes-none c.args.self.now c.args.end.intake.number c.args.now)

pub returns-then-now-clock-clause-listed : goal.returns-then-now-clock-clause-listed
returns-then-now-clock-clause-listed g c =
    let a = c.self.inside in
    let below = lane_below a.shutter.gate a.shelf.series a.shutter.accepted a.core a.lanes.items c.args.self.now c.args.end c.self.view_is c.requires in
    Takes-settles c.args.self.now c.args.self.now c.args.end.intake.number c.args.now below

pub settle_front-requires-clause-front : goal.settle_front-requires-clause-front
settle_front-requires-clause-front g c κs within =
    let a = c.self.inside in
    let e = c.args.end in
    let below = lane_below a.shutter.gate a.shelf.series a.shutter.accepted a.core a.lanes.items c.args.self.now e c.self.view_is c.requires in
    let number : c.end.inside.intake.number ≡ e.intake.number = ap (λ (f : FrontView). f.intake.number) c.end.view_is in
    let said = c.number.ensures in
    let wide = c.from-front.ensures in
    (omega arith, omega arith)

pub returns-in-Ok-clause-listed : goal.returns-in-Ok-clause-listed
returns-in-Ok-clause-listed g c =
    let a = c.self.inside in
    let below = lane_below a.shutter.gate a.shelf.series a.shutter.accepted a.core a.lanes.items c.args.self.now c.args.end c.self.view_is c.requires in
    Takes-settles c.args.self.now c.settle_front.new.self c.args.end.intake.number c.args.now below

pub returns-in-Err-clause-listed : goal.returns-in-Err-clause-listed
returns-in-Err-clause-listed g c =
    let a = c.self.inside in
    let below = lane_below a.shutter.gate a.shelf.series a.shutter.accepted a.core a.lanes.items c.args.self.now c.args.end c.self.view_is c.requires in
    Takes-settles c.args.self.now c.settle_front.new.self c.args.end.intake.number c.args.now below
