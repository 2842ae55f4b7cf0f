use Rattle.std.proofs.Common.{◌≤◌, ◌+◌, All, vec_len, vec_capacity}
use Rattle.ct_house.specs.House.{IsOfHouse}
use Rattle.house_tests.specs.declared.sixteen_fronts.Party.{Party}
use Rattle.house_tests.proofs.sixteen_fronts.retire_all.Given as goal

abbrev pub invariant-loop-party : goal.invariant-loop-party
invariant-loop-party l = All (λ (p : Party). IsOfHouse l._house.house p.front) l.parties.items × All (IsOfHouse l._house.house) l.ends.items
    × (vec_len l.ends + vec_len l.parties ≤ vec_capacity l.ends) × (vec_len l.seen + vec_len l.parties ≤ vec_capacity l.seen)

abbrev pub decreases-loop-party : goal.decreases-loop-party
decreases-loop-party l = vec_len l.parties
