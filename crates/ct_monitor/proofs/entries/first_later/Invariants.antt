use Rattle.std.proofs.Common.{map, take, All}
use Rattle.ct_monitor.specs.Entries.{IsNoLaterThan}
use Rattle.ct_monitor.proofs.entries.first_later.Given as goal

abbrev pub invariant-loop-i : goal.invariant-loop-i
invariant-loop-i l = All (IsNoLaterThan l.moment) (take l.i (map (λ v. v.items) l.leaves))
