use Rattle.std.proofs.Common.{subst, arith}
use Rattle.ct_promise.specs.DerReading.{Gives}
use Rattle.ct_promise.proofs.Answered.{is_tbs}
use Rattle.ct_promise.proofs.Here.{tbs_here}
use Rattle.ct_promise.proofs.reading.tbs_of.Goals as goal

pub returns-clause-found : goal.returns-clause-found
returns-clause-found c = is_tbs c.args.certificate.now c.read_tbs.result (λ i. omega (arith, c.type_inv.certificate i)) c.read_tbs.ensures

pub returns-clause-every : goal.returns-clause-every
returns-clause-every c t is = subst (λ f. Gives (λ x. x.now) c.read_tbs.result f) (tbs_here t c.args.certificate.now is) c.read_tbs.ensures
