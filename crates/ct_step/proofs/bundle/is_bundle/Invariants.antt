use Rattle.std.proofs.Common.{ℕ, List, length}
use Rattle.ct_step.proofs.Bundles.{ReadSoFar}
use Rattle.ct_step.proofs.bundle.is_bundle.Given as goal

abbrev pub invariant-objects : goal.invariant-objects
invariant-objects l = (done : List (List ℕ × List ℕ)) × ReadSoFar done l.bundle l.reader

abbrev pub decreases-objects : goal.decreases-objects
decreases-objects l = length l.reader
