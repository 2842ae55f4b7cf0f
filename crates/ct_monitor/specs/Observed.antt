-- When a monitor refuses a head. H is any hash function on byte lists.
use Rattle.std.specs.Prelude.{◌≡◌, ℕ, ◌+◌, ◌<◌, ◌≤◌, List, ◌++◌, length, Some, None}
use Rattle.std.specs.declared.option.Option.{Option}
use Rattle.ct_tree.specs.Tree.{mth_of_leaves}
use Rattle.ct_tree.specs.declared.head.Head.{Head}
use Rattle.ct_monitor.specs.Followed.{Followed}
use Rattle.ct_monitor.specs.declared.fault.MonitorFault.{MonitorFault}
use Rattle.ct_monitor.specs.declared.fault.MonitorFault.TheVariants.{RootMismatch, Shrunk, Fork, TimeNotLater, CountMismatch, Memory}

-- the last head has this head's size and a different root
abbrev pub Forks : Option Head → Head → Type 0
Forks None head = ⊥
Forks (Some last) head = (last.tree_size ≡ head.tree_size) × (¬ (last.root ≡ head.root))

-- the head is not later than the last one, and is not that same head again
abbrev pub IsNotLater : Option Head → Head → Type 0
IsNotLater None head = ⊥
IsNotLater (Some last) head = (head.timestamp ≤ last.timestamp) × (¬ (last ≡ head))

-- the head covers at least as many leaves as are kept, is no fork, and is later or the same again
abbrev pub IsInOrder : Followed → Head → Type 0
IsInOrder old head = (length old.leaves ≤ head.tree_size) × (¬ Forks old.last_head head) × (¬ IsNotLater old.last_head head)

-- the number of kept leaves and new leaves E is the size of the head
abbrev pub IsCounted : Followed → Head → List (List ℕ) → Type 0
IsCounted old head E = length old.leaves + length E ≡ head.tree_size

-- when each fault is returned for a head with the new leaves E. Each fault excludes those before it in the order Shrunk, Fork,
-- TimeNotLater, CountMismatch, Memory, RootMismatch. The arguments do not determine whether Memory is returned
abbrev pub RefusesHead : (List ℕ → List ℕ) → Followed → Head → List (List ℕ) → MonitorFault → Type 0
RefusesHead H old head E Shrunk = head.tree_size < length old.leaves
RefusesHead H old head E Fork = (length old.leaves ≤ head.tree_size) × Forks old.last_head head
RefusesHead H old head E TimeNotLater = (length old.leaves ≤ head.tree_size) × (¬ Forks old.last_head head) × IsNotLater old.last_head head
RefusesHead H old head E CountMismatch = IsInOrder old head × (¬ IsCounted old head E)
RefusesHead H old head E Memory = IsInOrder old head × IsCounted old head E
RefusesHead H old head E RootMismatch = IsInOrder old head × IsCounted old head E × (¬ (head.root ≡ mth_of_leaves H (old.leaves ++ E)))
