-- Why new leaves are not taken, as the contracts of the helper functions cite it.
use Rattle.std.specs.Prelude.{◌≡◌, ℕ, List, ⊤}
use Rattle.ct_tree.specs.Tree.{mth_of_leaves}
use Rattle.ct_monitor.specs.declared.fault.MonitorFault.{MonitorFault}
use Rattle.ct_monitor.specs.declared.fault.MonitorFault.TheVariants.{RootMismatch, Memory}

-- why the subtrees are not extended to those of the leaves D with that root
abbrev pub IsNoRoot : (List ℕ → List ℕ) → List (List ℕ) → List ℕ → MonitorFault → Type 0
IsNoRoot H D root RootMismatch = ¬ (root ≡ mth_of_leaves H D)
IsNoRoot H D root Memory = ⊤
IsNoRoot H D root fault = ⊥
