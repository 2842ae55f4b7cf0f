-- When the parts of a monitor's state fit one another. H is any hash function on byte lists.
use Rattle.std.specs.Prelude.{◌≡◌, ◌⊎◌, ⊤, ◌<◌, ◌≤◌, ℕ, List, length, count_ones, Option, Some, None}
use Rattle.ct_monitor.specs.Verdicts.{IsGrownLater}
use Rattle.ct_monitor.specs.WatcherState.{WatcherState}
use Rattle.ct_tree.specs.Peaks.{root_of_peaks}
use Rattle.ct_tree.specs.declared.head.Head.{Head}

-- there are as many subtrees as a tree with this number of leaves has: the number of ones of this number in binary
abbrev pub HasSubtrees : ℕ × List (List ℕ) → Type 0
HasSubtrees p = length p.1 ≡ count_ones p.0

-- the accepted head has the number and the root of the accepted leaves; if no head is accepted, there are none
abbrev pub AcceptedFits : (List ℕ → List ℕ) → Option Head → ℕ × List (List ℕ) → Type 0
AcceptedFits H None sure = sure.0 ≡ 0
AcceptedFits H (Some head) sure = (head.tree_size ≡ sure.0) × (head.root ≡ root_of_peaks H sure.1)

-- fewer leaves are accepted than were read; or equally many, and then the subtrees are the same
abbrev pub AreAcceptedOf : ℕ × List (List ℕ) → ℕ × List (List ℕ) → Type 0
AreAcceptedOf sure all = (sure.0 < all.0) ⊎ ((sure.0 ≡ all.0) × (sure.1 ≡ all.1))

-- the waiting head is larger and later than the accepted one, and has more leaves than were read; if no head waits, all leaves that were
-- read are accepted
abbrev pub WaitingFits : Option Head → ℕ → Option Head → ℕ × List (List ℕ) → ℕ × List (List ℕ) → Type 0
WaitingFits accepted newest None sure all = (sure.0 ≡ all.0) × (sure.1 ≡ all.1)
WaitingFits accepted newest (Some head) sure all = IsGrownLater accepted newest head × (all.0 < head.tree_size) × AreAcceptedOf sure all

-- the newest timestamp of a known head is not before its earliest one
abbrev pub NewestFits : Option Head → ℕ → Type 0
NewestFits None newest = ⊤
NewestFits (Some head) newest = head.timestamp ≤ newest

-- the parts of a state fit one another
pub record FitsTogether (H : List ℕ → List ℕ) (s : WatcherState) : Type 0 where
  pub sure : HasSubtrees s.sure
  pub all : HasSubtrees s.all
  pub accepted : AcceptedFits H s.accepted s.sure
  pub waiting : WaitingFits s.accepted s.newest.accepted s.waiting s.sure s.all
  pub newest : NewestFits s.accepted s.newest.accepted × NewestFits s.waiting s.newest.waiting
