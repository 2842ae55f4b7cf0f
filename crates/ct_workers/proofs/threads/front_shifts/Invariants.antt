use Rattle.std.proofs.Common.{length}
use Rattle.ct_workers.proofs.ScriptPartyLemmas.{Pairing}
use Rattle.ct_workers.proofs.threads.front_shifts.Given as goal

abbrev pub invariant-loop-party : goal.invariant-loop-party
invariant-loop-party l = Pairing l.fn.parties.items l.parties.items l.fn.tasks.items l.tasks.items l.shifts.items

abbrev pub decreases-loop-party : goal.decreases-loop-party
decreases-loop-party l = length l.parties.items
