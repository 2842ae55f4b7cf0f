-- The value of a watcher in contracts, and the data that it represents.
use Rattle.std.specs.Prelude.{◌≡◌, ℕ, List, map}
use Rattle.std.specs.declared.option.Option.{Option}
use Rattle.ct_tree.specs.Stack.{Stands}
use Rattle.ct_tree.specs.Tree.{hash_leaf}
use Rattle.ct_tree.specs.declared.head.Head.{Head}
use Rattle.ct_monitor.specs.Watched.{Watched, leaves_read}
use Rattle.ct_monitor.specs.declared.newest.Newest.{Newest}

-- The value of a watcher in contracts: the accepted head and the waiting one, each with its earliest timestamp, and their newest
-- timestamps; and, both for the accepted leaves and for all leaves that were read, their number and the roots of their perfect subtrees.
pub record WatcherState : Type 0 where
  pub accepted : Option Head
  pub waiting : Option Head
  pub newest : Newest
  pub sure : ℕ × List (List ℕ)
  pub all : ℕ × List (List ℕ)

-- the state has the heads and the timestamps of w, and its subtrees are those of the accepted leaves and of all leaves read
pub record Keeps (H : List ℕ → List ℕ) (state : WatcherState) (w : Watched) : Type 0 where
  pub accepted : state.accepted ≡ w.accepted
  pub waiting : state.waiting ≡ w.waiting
  pub newest : state.newest ≡ w.newest
  pub sure : Stands H state.sure (map (hash_leaf H) w.sure)
  pub all : Stands H state.all (map (hash_leaf H) (leaves_read w))
