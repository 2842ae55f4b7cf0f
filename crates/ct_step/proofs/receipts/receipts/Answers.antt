use Rattle.std.proofs.Common.{◌∙◌, ℕ, List, map, arith, sym, ap}
use Rattle.ct_codec.specs.Submitted.{entry_of}
use Rattle.ct_codec.specs.Signed.{timestamp_text}
use Rattle.ct_step.specs.Leaves.{receipt_parts}
use Rattle.ct_step.proofs.Steps.{receipts-none, receipts-step}
use Rattle.ct_step.proofs.receipts.receipts.Goals as goal

pub loop-submission-init : goal.loop-submission-init
loop-submission-init c = record {
  receipts = ap (map receipt_parts) c.new-receipts.ensures.items ∙ sym (receipts-none c.args.now c.args.first);
  index = omega arith;
}

pub loop-submission-preserved : goal.loop-submission-preserved
loop-submission-preserved c =
    let l = c.loop-submission in
    let t = c.args.now in
    let e = entry_of c.submission-item.result in
    record {
      receipts = receipts-step t c.args.first l.leaf_index l.submission-index c.args.batch.now c.submission-item.result
          l.receipts.items c.push.new.self.items _ c.loop-submission-test.true c.submission-item.is l.invariant.index
          (ap (λ (s : List ℕ). (l.leaf_index, t, s)) (c.in_ok-signed.ensures.text ∙ ap (timestamp_text t e) c.index_extension-extension.ensures))
          c.in_ok-push.ensures.items l.invariant.receipts;
      index = omega (arith, l.invariant.index);
    }
