use Rattle.std.proofs.Common.{◌≡◌, length}
use Rattle.ct_names.specs.Covers.{behind_first}
use Rattle.ct_names.proofs.matching.bytes_behind.Given as goal

abbrev pub invariant-rest : goal.invariant-rest
invariant-rest l = behind_first l.byte l.rest ≡ behind_first l.byte l.bytes

abbrev pub decreases-rest : goal.decreases-rest
decreases-rest l = length l.rest
