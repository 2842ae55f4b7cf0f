use Rattle.std.proofs.Common.{take}
use Rattle.ct_step.proofs.Standing.{ArePlaced}
use Rattle.ct_step.proofs.places.places_of.Given as goal

abbrev pub invariant-loop-object : goal.invariant-loop-object
invariant-loop-object l = ArePlaced (take l.object-index l.objects) l.end l.places.items
