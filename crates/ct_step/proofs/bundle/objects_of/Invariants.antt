use Rattle.std.proofs.Common.{length, map}
use Rattle.ct_step.specs.Resumed.{object_parts}
use Rattle.ct_step.proofs.Bundles.{ReadSoFar}
use Rattle.ct_step.proofs.bundle.objects_of.Given as goal

abbrev pub invariant-objects : goal.invariant-objects
invariant-objects l = ReadSoFar (map object_parts l.objects.items) l.bundle l.reader

abbrev pub decreases-objects : goal.decreases-objects
decreases-objects l = length l.reader
