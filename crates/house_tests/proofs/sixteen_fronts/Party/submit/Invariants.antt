use Rattle.house_tests.specs.Fronts.{SameFront}
use Rattle.house_tests.proofs.sixteen_fronts.Party.submit.Given as goal

abbrev pub invariant-loop : goal.invariant-loop
invariant-loop l = SameFront l.fn.self.front l.self.front
