use Rattle.std.proofs.Common.{subst, arith}
use Rattle.ct_promise.specs.DerReading.{Gives}
use Rattle.ct_promise.proofs.Answered.{is_key}
use Rattle.ct_promise.proofs.Here.{key_here}
use Rattle.ct_promise.proofs.reading.key_of.Goals as goal

pub returns-clause-found : goal.returns-clause-found
returns-clause-found c = is_key c.args.tbs.now c.read_key.result (λ i. omega (arith, c.type_inv.tbs i)) c.read_key.ensures

pub returns-clause-every : goal.returns-clause-every
returns-clause-every c k is = subst (λ f. Gives (λ x. x.now) c.read_key.result f) (key_here k c.args.tbs.now is) c.read_key.ensures
