use Rattle.std.proofs.Common.{◌∙◌, sym}
use Rattle.ct_codec.specs.Decoded.{entry_lent}
use Rattle.ct_codec.specs.Faults.{LeafFaulty}
use Rattle.ct_codec.proofs.Exits.{left_with}
use Rattle.ct_codec.proofs.Leaves.{leaf_entry_fault, leaf_extensions_cut}
use Rattle.ct_codec.proofs.reading.lend_leaf.Goals as goal

pub returns-in_err-entry-clause-fault : goal.returns-in_err-entry-clause-fault
returns-in_err-entry-clause-fault c =
    let met = c.in_err-entry.field-0.0 in
    left_with (λ f. LeafFaulty f c.args.bytes.now) met c.from_residual-in_err-entry.result c.from_residual-in_err-entry.ensures.1
    (leaf_entry_fault met c.in_ok-timestamp.timestamp c.args.bytes.now c.timestamp_at.new.reader c.in_ok-timestamp.ensures.found.0
    (sym c.new-input.ensures ∙ c.in_ok-timestamp.ensures.found.1) c.in_err-entry.ensures.fault)

pub returns-in_default-clause-fault : goal.returns-in_default-clause-fault
returns-in_default-clause-fault c =
    leaf_extensions_cut c.in_ok-timestamp.timestamp (entry_lent c.in_ok-entry.entry) c.args.bytes.now c.timestamp_at.new.reader c.entry_at.new.reader
    c.in_ok-timestamp.ensures.found.0 c.in_ok-entry.ensures.found.0 (sym c.new-input.ensures ∙ c.in_ok-timestamp.ensures.found.1)
    c.in_ok-entry.ensures.found.1 c.in_default.ensures.none
