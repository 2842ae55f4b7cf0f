use Rattle.house_tests.specs.Fronts.{SameFront}
use Rattle.house_tests.proofs.sixteen_fronts.Party.submit_all.Given as goal

abbrev pub invariant-loop-number : goal.invariant-loop-number
invariant-loop-number l = SameFront l.fn.self.front l.self.front
