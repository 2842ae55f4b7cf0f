use Rattle.std.proofs.Common.{◌≡◌, drop}
use Rattle.ct_tree.specs.Peaks.{root_of_peaks}
use Rattle.ct_monitor.proofs.fitting.joined.Given as goal

abbrev pub invariant-loop-i : goal.invariant-loop-i
invariant-loop-i g l = l.root ≡ root_of_peaks g.H.NodeHash.digest (drop l.i l.subtrees)
