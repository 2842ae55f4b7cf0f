-- Tree heads and the leaves that they cover.
use Rattle.std.specs.Prelude.{◌≡◌, ℕ, List, length}
use Rattle.ct_tree.specs.Tree.{mth_of_leaves}
use Rattle.ct_tree.specs.declared.head.Head.{Head}

-- the head is the head of the leaves D: it has their number, and their MTH as its root
abbrev pub IsHeadOfAll : (List ℕ → List ℕ) → List (List ℕ) → Head → Type 0
IsHeadOfAll H D head = (head.tree_size ≡ length D) × (head.root ≡ mth_of_leaves H D)

-- the head with this timestamp in place of its own
abbrev pub at_timestamp : Head → ℕ → Head
at_timestamp head timestamp = record { tree_size = head.tree_size; timestamp = timestamp; root = head.root }
