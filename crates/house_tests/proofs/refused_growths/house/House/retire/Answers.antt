use Rattle.std.proofs.Common.{[], ◌∷◌, sym, subst}
use Rattle.std.proofs.lemmas.List.Elements.{All-nil, All-cons}
use Rattle.ct_house.specs.House.{IsOfHouse}
use Rattle.house_tests.proofs.refused_growths.house.House.retire.Goals as goal

pub invariant_of-result : goal.invariant_of-result
invariant_of-result c =
    let Own = IsOfHouse c.args.self.house.house in
    let zero : Own c.retire.result = subst Own (sym c.retire.ensures) c.args.self.of_house.0 in
    let one : Own c.retire-2.result = subst Own (sym c.retire-2.ensures) c.args.self.of_house.1 in
    record { of_house = All-cons Own c.retire.result (c.retire-2.result ∷ []) zero (All-cons Own c.retire-2.result [] one (All-nil Own)) }
