use Rattle.std.proofs.Common.{◌≡◌, map}
use Rattle.ct_workers.proofs.threads.start_fronts.Given as goal

abbrev pub invariant-loop-shift : goal.invariant-loop-shift
invariant-loop-shift g l = map (λ t. t.promise.0.value) l.threads.items ≡ l.yielded
