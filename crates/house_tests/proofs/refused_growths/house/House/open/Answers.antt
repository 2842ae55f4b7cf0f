use Rattle.std.proofs.Common.{◌≡◌, ℕ, List, length, refl, ap, subst}
use Rattle.std.specs.Prelude.{Some, slice_get}
use Rattle.ct_house.specs.House.{FrontView, IsFreshFront}
use Rattle.house_tests.proofs.FrontLemmas.{two_last}
use Rattle.house_tests.proofs.refused_growths.house.House.open.Goals as goal

pub invariant_of-result : goal.invariant_of-result
invariant_of-result g c =
    let f = c.in_ok-house.ensures.fresh in
    let i = two_last c.in_ok-house.fronts.items c.pop.new.self.items c.pop-2.new.self.items c.in-Some-Some.one c.in-Some-Some.zero f.count
    c.in-Some-Some.ensures.items c.in-Some-Some.ensures'.items in
    let each = subst (λ (fs : List FrontView). (k : ℕ) (x : FrontView) → slice_get fs k ≡ Some x → IsFreshFront c.in_ok-house.house.house c.args.ring k x)
    i f.each in
    record { lanes = ap length f.lanes; of_house = ((each 0 c.in-Some-Some.zero refl).of_house, (each 1 c.in-Some-Some.one refl).of_house) }
