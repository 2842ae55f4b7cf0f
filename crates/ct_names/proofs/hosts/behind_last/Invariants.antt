use Rattle.std.proofs.Common.{◌≡◌, length}
use Rattle.std.specs.Option.{option_map}
use Rattle.ct_names.specs.Hosts.{behind_last, latest}
use Rattle.ct_names.proofs.hosts.behind_last.Given as goal

abbrev pub invariant-rest : goal.invariant-rest
invariant-rest l = latest (behind_last l.byte l.rest) (option_map (λ h. h.now) l.found) ≡ behind_last l.byte l.bytes

abbrev pub decreases-rest : goal.decreases-rest
decreases-rest l = length l.rest
