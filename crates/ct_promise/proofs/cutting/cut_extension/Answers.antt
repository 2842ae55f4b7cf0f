use Rattle.std.proofs.Common.{subst, arith}
use Rattle.ct_promise.specs.DerReading.{Gives}
use Rattle.ct_promise.specs.Cuts.{parts_of}
use Rattle.ct_promise.proofs.Answered.{is_parted}
use Rattle.ct_promise.proofs.Here.{cuts_are_read}
use Rattle.ct_promise.proofs.cutting.cut_extension.Goals as goal

pub returns-clause-found : goal.returns-clause-found
returns-clause-found c = is_parted c.args.identifier.now c.args.tbs.now c.read_cut.result (λ i. omega (arith, c.type_inv.tbs i)) c.read_cut.ensures

pub returns-clause-every : goal.returns-clause-every
returns-clause-every c p is = subst (λ f. Gives (λ c. parts_of c) c.read_cut.result f) (cuts_are_read c.args.identifier.now p c.args.tbs.now is) c.read_cut.ensures
