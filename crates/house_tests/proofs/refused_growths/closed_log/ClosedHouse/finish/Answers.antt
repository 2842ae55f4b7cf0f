use Rattle.std.proofs.Common.{[], ◌∷◌, sym, subst, arith}
use Rattle.std.proofs.lemmas.List.Elements.{All-nil, All-cons, All-same}
use Rattle.ct_house.specs.House.{IsOfHouse}
use Rattle.house_tests.proofs.refused_growths.closed_log.ClosedHouse.finish.Goals as goal

pub closed-requires : goal.closed-requires
closed-requires g c =
    let Own = IsOfHouse c.args.self.house.house in
    let zero = c.zero-1.given in
    let one = c.one-1.given in
    All-same Own c.listed-ends.result.items (zero.0 ∷ one.0 ∷ []) c.listed-ends.ensures
    (All-cons Own zero.0 (one.0 ∷ []) (subst Own (sym zero.1) (c.args.self.of_house 0 zero.0 (omega arith)))
    (All-cons Own one.0 [] (subst Own (sym one.1) (c.args.self.of_house 1 one.0 (omega arith))) (All-nil Own)))
