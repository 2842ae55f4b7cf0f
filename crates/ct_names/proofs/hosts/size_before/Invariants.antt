use Rattle.std.proofs.Common.{◌≡◌, ◌+◌, ◌-◌, ◌≤◌, length}
use Rattle.ct_names.specs.Hosts.{before_any}
use Rattle.ct_names.proofs.hosts.size_before.Given as goal

abbrev pub invariant-rest : goal.invariant-rest
invariant-rest l =
    (length l.bytes - length l.rest + length (before_any l.one l.two l.three l.rest) ≡ length (before_any l.one l.two l.three l.bytes))
    × (length l.rest ≤ length l.bytes)

abbrev pub decreases-rest : goal.decreases-rest
decreases-rest l = length l.rest
