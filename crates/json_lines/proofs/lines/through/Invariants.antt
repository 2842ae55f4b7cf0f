use Rattle.std.proofs.Common.{length, take, ◌-◌, ◌≤◌, ◌≢◌, All}
use Rattle.json_lines.proofs.lines.through.Given as goal

abbrev pub invariant-loop-i : goal.invariant-loop-i
invariant-loop-i l = (l.i ≤ length l.bytes) × All (λ x. x ≢ 10) (take l.i l.bytes)

abbrev pub decreases-loop-i : goal.decreases-loop-i
decreases-loop-i l = length l.bytes - l.i
