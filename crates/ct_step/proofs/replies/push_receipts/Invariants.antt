use Rattle.std.proofs.Common.{◌≡◌, ◌++◌, map, take}
use Rattle.std.specs.List.{flat_map}
use Rattle.std.specs.Prelude.{filter_map, slice_get}
use Rattle.ct_step.specs.Leaves.{receipt_parts}
use Rattle.ct_step.specs.StepReplies.{receipt_text}
use Rattle.ct_step.proofs.replies.push_receipts.Given as goal

abbrev pub invariant-loop-place : goal.invariant-loop-place
invariant-loop-place l =
    l.text.items ≡ l.fn.text.items ++ flat_map receipt_text (filter_map (slice_get (map receipt_parts l.receipts)) (take l.place-index l.places))
