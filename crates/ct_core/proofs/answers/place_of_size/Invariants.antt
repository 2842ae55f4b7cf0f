use Rattle.std.proofs.Common.{ℕ, ◌-◌, ◌<◌, ◌≤◌, length, get_or}
use Rattle.ct_tree.specs.declared.head.Head.{Head}
use Rattle.ct_core.proofs.answers.place_of_size.Given as goal

abbrev pub invariant-loop-low : goal.invariant-loop-low
invariant-loop-low l =
    (l.low ≤ l.high) × (l.high ≤ length l.heads)
    × ((i : ℕ) (d : Head) → i < l.low → (get_or l.heads i d).tree_size < l.n)
    × ((i : ℕ) (d : Head) → l.high ≤ i → i < length l.heads → l.n ≤ (get_or l.heads i d).tree_size)

abbrev pub decreases-loop-low : goal.decreases-loop-low
decreases-loop-low l = l.high - l.low
