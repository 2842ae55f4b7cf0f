-- Which heads are accused. H is any hash function on byte lists.
use Rattle.std.specs.Prelude.{◌≡◌, ◌⊎◌, ◌↔◌, true, ℕ, List, Some, None}
use Rattle.std.specs.declared.option.Option.{Option}
use Rattle.ct_tree.specs.declared.head.Head.{Head}
use Rattle.ct_monitor.specs.CallLaws.{IsHandedOut}
use Rattle.ct_monitor.specs.Heads.{at_timestamp}
use Rattle.ct_monitor.specs.Verdicts.{Contradict, HeadSays, accuses}
use Rattle.ct_monitor.specs.Watched.{Watched}
use Rattle.ct_monitor.specs.declared.verdict.Verdict.{Verdict}
use Rattle.ct_monitor.specs.declared.verdict.Verdict.TheVariants.{RootMismatch}

-- the heads of a known tree: the one with its earliest timestamp, and the one with its newest
abbrev pub IsOfTree : Option Head → ℕ → Head → Type 0
IsOfTree None newest head = ⊥
IsOfTree (Some known) newest head = (head ≡ known) ⊎ (head ≡ at_timestamp known newest)

-- the known heads: those of the accepted tree and of the waiting one
abbrev pub IsKnown : Watched → Head → Type 0
IsKnown w head = IsOfTree w.accepted w.newest.accepted head ⊎ IsOfTree w.waiting w.newest.waiting head

-- a head contradicts a known head
abbrev pub IsContradicted : Watched → Head → Type 0
IsContradicted w head = (known : Head) × IsKnown w known × Contradict known head

-- The verdict on a head accuses the log if and only if the head contradicts a known head, or the waiting head is not the head of the leaves
-- that were read.
abbrev pub HeadsAreAccusedExactly : Type 0
HeadsAreAccusedExactly =
    (H : List ℕ → List ℕ) (w : Watched) (head : Head) (v : Verdict) → IsHandedOut H w → HeadSays H w head v
    → (accuses v ≡ true) ↔ (IsContradicted w head ⊎ ((root : List ℕ) × (v ≡ RootMismatch root)))
