use Rattle.std.proofs.Common.{◌<◌, ℕ, List, length, get_or, refl, arith}
use Rattle.std.proofs.lemmas.List.{get_or_default}
use Rattle.std.proofs.lemmas.Option.{slice_get_read, slice_get_past}
use Rattle.ct_step.specs.declared.receipts.Receipt.{Receipt}
use Rattle.ct_step.proofs.CallReceipts.{receipt-more, receipt-passed}
use Rattle.ct_step.proofs.replies.push_receipts.Goals as goal

pub loop-place-preserved-in_default : goal.loop-place-preserved-in_default
loop-place-preserved-in_default c =
    let xs : List Receipt = c.args.receipts.now in
    let places : List ℕ = c.args.places.now in
    let i = c.loop-place.place-index in
    let place = get_or places i 0 in
    let within : i < length places = omega (arith, c.loop-place-test.true) in
    receipt-passed xs places i place c.args.text.now.items c.loop-place.text.items within
    (get_or_default places i 0 place within) (slice_get_past xs place c.in_default.ensures.lookup.3) c.loop-place.invariant

pub loop-place-preserved : goal.loop-place-preserved
loop-place-preserved c =
    let xs : List Receipt = c.args.receipts.now in
    let places : List ℕ = c.args.places.now in
    let i = c.loop-place.place-index in
    let place = get_or places i 0 in
    let r : Receipt = c.in-Some.receipt.now in
    let within : i < length places = omega (arith, c.loop-place-test.true) in
    receipt-more xs places i place r c.args.text.now.items c.loop-place.text.items c.push_receipt.new.text.items within
    (get_or_default places i 0 place within)
    (slice_get_read xs (length xs) place r refl c.in-Some.ensures.lookup.3.0 c.in-Some.ensures.lookup.1) c.loop-place.invariant
    c.in_ok-push_receipt.ensures
