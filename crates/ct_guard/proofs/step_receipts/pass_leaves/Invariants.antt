use Rattle.std.proofs.Common.{◌+◌, ◌-◌, ◌≤◌, drop, length, map}
use Rattle.ct_guard.specs.StepReceipts.{AreLeavesOf, StopsLeaves}
use Rattle.ct_guard.specs.declared.refusal.ReceiptRefusal.{ReceiptRefusal}
use Rattle.ct_guard.proofs.step_receipts.pass_leaves.Given as goal

-- If all leaves that are left are let through, all leaves are. A refusal of one that is left is a refusal of all leaves.
abbrev pub invariant-place : goal.invariant-place
invariant-place l =
    (AreLeavesOf l.last (l.fn.first + l.place) (map (λ leaf. leaf.now) (drop l.place l.fn.leaves)) → AreLeavesOf l.last l.fn.first
    (map (λ leaf. leaf.now) l.fn.leaves))
    × ((r : ReceiptRefusal) → StopsLeaves l.last (l.fn.first + l.place) (map (λ leaf. leaf.now) (drop l.place l.fn.leaves)) r
    → StopsLeaves l.last l.fn.first (map (λ leaf. leaf.now) l.fn.leaves) r)
    × (l.place ≤ length l.fn.leaves)

abbrev pub decreases-place : goal.decreases-place
decreases-place l = length l.fn.leaves - l.place
