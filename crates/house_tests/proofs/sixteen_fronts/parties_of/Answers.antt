use Rattle.std.proofs.Common.{Some, sym, subst}
use Rattle.std.proofs.lemmas.List.Elements.{All-pop, All-push, All-same}
use Rattle.ct_house.specs.House.{FrontView, IsOfHouse}
use Rattle.house_tests.specs.declared.sixteen_fronts.Party.{Party}
use Rattle.house_tests.proofs.sixteen_fronts.parties_of.Goals as goal

pub loop-front-preserved : goal.loop-front-preserved
loop-front-preserved c =
    let house = c.args._house.now.house in
    let popped = All-pop (IsOfHouse house) c.loop-front.fronts.items c.pop.new.self.items (Some c.in-Some.front) c.in-Some.ensures.items
    c.loop-front.invariant.0 in
    let here : IsOfHouse house c.new.result.front = subst (λ (f : FrontView). IsOfHouse house f) (sym c.new.ensures) popped.1 in
    let P = λ (p : Party). IsOfHouse house p.front in
    (popped.0, All-same P c.push.new.self.items _ c.in_ok-push.ensures.items (All-push P c.loop-front.parties.items c.new.result c.loop-front.invariant.1 here))
