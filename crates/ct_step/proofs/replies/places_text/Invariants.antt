use Rattle.std.proofs.Common.{◌≡◌, map, take}
use Rattle.std.specs.List.{flat_map}
use Rattle.ct_step.specs.StepReplies.{reference_text}
use Rattle.ct_step.specs.StepWords.{place_parts}
use Rattle.ct_step.proofs.replies.places_text.Given as goal

abbrev pub invariant-loop-place : goal.invariant-loop-place
invariant-loop-place l = l.text.items ≡ flat_map reference_text (map place_parts (take l.place-index l.places))
