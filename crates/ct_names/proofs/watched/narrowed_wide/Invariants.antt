use Rattle.std.proofs.Common.{◌≡◌, ◌++◌, length}
use Rattle.ct_names.specs.Watched.{narrow_wide}
use Rattle.ct_names.proofs.watched.narrowed_wide.Given as goal

abbrev pub invariant-rest : goal.invariant-rest
invariant-rest l = l.out.items ++ narrow_wide l.rest ≡ narrow_wide l.bytes

abbrev pub decreases-rest : goal.decreases-rest
decreases-rest l = length l.rest
