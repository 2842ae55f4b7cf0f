-- The value of a monitor in contracts.
use Rattle.std.specs.Prelude.{◌≡◌, ℕ, List, [], Some, None}
use Rattle.std.specs.declared.option.Option.{Option}
use Rattle.ct_tree.specs.declared.head.Head.{Head}
use Rattle.ct_monitor.specs.Heads.{IsHeadOfAll}

-- The value of a monitor in contracts: the leaves that it keeps, and the last head that it took.
pub record Followed : Type 0 where
  pub leaves : List (List ℕ)
  pub last_head : Option Head

-- the last head is the head of the leaves D; before the first head there are no leaves
abbrev pub IsFollowing : (List ℕ → List ℕ) → List (List ℕ) → Option Head → Type 0
IsFollowing H D None = D ≡ []
IsFollowing H D (Some head) = IsHeadOfAll H D head
