-- The value of a follower in contracts.
use Rattle.std.specs.Prelude.{ℕ, List, map}
use Rattle.std.specs.declared.option.Option.{Option}
use Rattle.ct_tree.specs.Stack.{Stands}
use Rattle.ct_tree.specs.Tree.{hash_leaf}
use Rattle.ct_tree.specs.declared.head.Head.{Head}
use Rattle.ct_monitor.specs.Followed.{Followed, IsFollowing}

-- The value of a follower in contracts: the number of leaves and the roots of their perfect subtrees, and the last head that it took.
pub record FollowerState : Type 0 where
  pub peaks : ℕ × List (List ℕ)
  pub last_head : Option Head

-- the value of a monitor that keeps the leaves D and took the follower's last head
abbrev pub keeping : List (List ℕ) → FollowerState → Followed
keeping D state = record { leaves = D; last_head = state.last_head }

-- the subtrees are those of the leaves D, and the last head is the head of D; before the first head there are no leaves
abbrev pub Follows : (List ℕ → List ℕ) → FollowerState → List (List ℕ) → Type 0
Follows H state D = Stands H state.peaks (map (hash_leaf H) D) × IsFollowing H D state.last_head
