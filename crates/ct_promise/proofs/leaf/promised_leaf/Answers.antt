use Rattle.std.proofs.Common.{subst, arith}
use Rattle.ct_promise.specs.Promise.{GivesPromise}
use Rattle.ct_promise.proofs.Promised.{leaf_answered, promised_here}
use Rattle.ct_promise.proofs.leaf.promised_leaf.Goals as goal

pub returns-clause-found : goal.returns-clause-found
returns-clause-found c =
    leaf_answered c.args.certificate.now c.args.issuer.now c.args.timestamp c.args.extensions.now c.read_promised.result
    (λ i. omega (arith, c.type_inv.certificate i)) (λ i. omega (arith, c.type_inv.issuer i)) (omega (arith, c.ranges.timestamp.fits)) c.requires
    c.read_promised.ensures

pub returns-clause-every : goal.returns-clause-every
returns-clause-every c leaf is =
    subst (λ f. GivesPromise (λ v. v.items) c.read_promised.result f)
    (promised_here c.args.certificate.now c.args.issuer.now c.args.timestamp c.args.extensions.now leaf is) c.read_promised.ensures
