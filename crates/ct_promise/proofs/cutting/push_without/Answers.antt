use Rattle.ct_promise.specs.Cuts.{parts_of}
use Rattle.ct_promise.proofs.Written.{written_cuts_are_there}
use Rattle.ct_promise.proofs.cutting.push_without.Goals as goal

pub returns-clause-cut : goal.returns-clause-cut
returns-clause-cut c identifier b is = (parts_of c.args.cut.now, is, written_cuts_are_there identifier (parts_of c.args.cut.now) b is)
