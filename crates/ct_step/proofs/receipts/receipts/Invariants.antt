use Rattle.std.proofs.Common.{◌≡◌, ◌+◌, map, take}
use Rattle.ct_codec.specs.Submitted.{entry_of}
use Rattle.ct_step.specs.Leaves.{receipts_from, receipt_parts}
use Rattle.ct_step.proofs.receipts.receipts.Given as goal

abbrev pub invariant-loop-submission : goal.invariant-loop-submission
invariant-loop-submission l = record {
  receipts : map receipt_parts l.receipts.items ≡ receipts_from l.now l.first (map entry_of (take l.submission-index l.batch));
  index : l.leaf_index ≡ l.first + l.submission-index;
}
