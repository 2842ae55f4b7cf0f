use Rattle.std.proofs.Common.{◌≡◌, ◌++◌}
use Rattle.ct_step.specs.Bundle.{bundle_text}
use Rattle.ct_step.specs.Objects.{each_from, cut_object}
use Rattle.ct_step.proofs.objects.push_level.Given as goal

abbrev pub invariant-loop-place : goal.invariant-loop-place
invariant-loop-place l = l.bundle.items ≡ l.initial.bundle.items ++ bundle_text (each_from (cut_object l.level l.first l.hashes) 0 l.place)
