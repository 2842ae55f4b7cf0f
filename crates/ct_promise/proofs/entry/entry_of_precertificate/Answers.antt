use Rattle.std.proofs.Common.{subst, arith}
use Rattle.ct_promise.specs.Promise.{GivesPromise}
use Rattle.ct_promise.proofs.Promised.{entry_answered, entry_here}
use Rattle.ct_promise.proofs.entry.entry_of_precertificate.Goals as goal

pub returns-clause-found : goal.returns-clause-found
returns-clause-found c = entry_answered c.args.tbs.now c.read_entry.result (λ i. omega (arith, c.type_inv.tbs i)) c.read_entry.ensures

pub returns-clause-every : goal.returns-clause-every
returns-clause-every c e is = subst (λ f. GivesPromise (λ v. v.items) c.read_entry.result f) (entry_here c.args.tbs.now e is) c.read_entry.ensures
