use Rattle.std.proofs.Common.{◌≡◌, length}
use Rattle.ct_names.specs.Names.{named_all}
use Rattle.ct_names.specs.Watched.{some_told}
use Rattle.ct_names.proofs.watched.is_some_told.Given as goal

abbrev pub invariant-rest : goal.invariant-rest
invariant-rest l = some_told l.alt (named_all l.rest) l.watched ≡ some_told l.alt (named_all l.names) l.watched

abbrev pub decreases-rest : goal.decreases-rest
decreases-rest l = length l.rest
