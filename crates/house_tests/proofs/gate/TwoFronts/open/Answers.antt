use Rattle.std.proofs.Common.{refl, subst₂}
use Rattle.house_tests.proofs.FrontLemmas.{two_last}
use Rattle.ct_gate.specs.Opening.{AreNewFronts}
use Rattle.house_tests.proofs.gate.TwoFronts.open.Goals as goal

pub invariant_of-result : goal.invariant_of-result
invariant_of-result c =
    let f = c.in_ok-shutter.ensures.fronts in
    let i = two_last c.in_ok-shutter.intakes.items c.pop.new.self.items c.pop-2.new.self.items c.in-Some-Some.one c.in-Some-Some.zero f.intake_count
    c.in-Some-Some.ensures.items c.in-Some-Some.ensures'.items in
    let o = two_last c.in_ok-shutter.outlets.items c.pop-3.new.self.items c.pop-4.new.self.items c.in-Some-Some-2.outlet_one c.in-Some-Some-2.outlet_zero
    f.outlet_count c.in-Some-Some-2.ensures.items c.in-Some-Some-2.ensures'.items in
    let g = subst₂ (AreNewFronts c.in_ok-shutter.shutter.gate 2 2) i o f in
    let zero = g.each 0 c.in-Some-Some.zero c.in-Some-Some-2.outlet_zero refl refl in
    let one = g.each 1 c.in-Some-Some.one c.in-Some-Some-2.outlet_one refl refl in
    record { ends = (zero.ends, one.ends); gate = (zero.gate, one.gate); numbers = (zero.number, one.number, c.in_ok-shutter.ensures.shutter.0) }
