use Rattle.std.proofs.Common.{All, vec_len}
use Rattle.ct_house.specs.House.{IsOfHouse}
use Rattle.house_tests.specs.declared.sixteen_fronts.Party.{Party}
use Rattle.house_tests.proofs.sixteen_fronts.parties_of.Given as goal

abbrev pub invariant-loop-front : goal.invariant-loop-front
invariant-loop-front l = All (IsOfHouse l._house.house) l.fronts.items × All (λ (p : Party). IsOfHouse l._house.house p.front) l.parties.items

abbrev pub decreases-loop-front : goal.decreases-loop-front
decreases-loop-front l = vec_len l.fronts
