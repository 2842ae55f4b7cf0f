use Rattle.std.proofs.Common.{map}
use Rattle.ct_workers.specs.Parties.{FrontsDo}
use Rattle.ct_workers.proofs.threads.join_fronts.Given as goal

abbrev pub invariant-loop-thread : goal.invariant-loop-thread
invariant-loop-thread g l = FrontsDo (map (λ t. t.promise.0.value) l.yielded) l.parties.items
