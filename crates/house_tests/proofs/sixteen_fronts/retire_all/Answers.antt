use Rattle.std.proofs.Common.{Some, sym, subst, arith}
use Rattle.std.proofs.lemmas.List.Elements.{All-pop, All-push, All-same}
use Rattle.ct_house.specs.House.{FrontView, IsOfHouse}
use Rattle.house_tests.specs.declared.sixteen_fronts.Party.{Party}
use Rattle.house_tests.proofs.sixteen_fronts.retire_all.Goals as goal

pub loop-party-preserved : goal.loop-party-preserved
loop-party-preserved c =
    let house = c.args._house.now.house in
    let P = λ (p : Party). IsOfHouse house p.front in
    let popped = All-pop P c.loop-party.parties.items c.pop.new.self.items (Some c.in-Some.party) c.in-Some.ensures.items c.loop-party.invariant.0 in
    let here : IsOfHouse house c.retire.result = subst (λ (f : FrontView). IsOfHouse house f) (sym c.retire.ensures) popped.1 in (
      popped.0,
      All-same (IsOfHouse house) c.push_reserved.new.self.items _ c.push_reserved.ensures.items
          (All-push (IsOfHouse house) c.loop-party.ends.items c.retire.result c.loop-party.invariant.1 here),
      omega (arith, c.in-Some.ensures.len),
      omega
          (arith, c.in-Some.ensures.len),
    )
