use Rattle.std.proofs.Common.{inl, inr}
use Rattle.ct_codec.specs.Decoded.{entry_lent}
use Rattle.ct_codec.proofs.Exits.{left_with}
use Rattle.ct_data_tiles.specs.Faults.{TileLeafFaulty}
use Rattle.ct_data_tiles.proofs.Fields.{behind_extensions}
use Rattle.ct_data_tiles.proofs.reading.tile_leaf_at.Goals as goal

pub returns-in_err-precertificate-clause-fault : goal.returns-in_err-precertificate-clause-fault
returns-in_err-precertificate-clause-fault c =
    let met = c.in_err-precertificate.field-0.0 in
    let time = c.in-Some.ensures in
    let entry = c.in_ok-entry.ensures.found in
    let more = c.in-Some-vector_2.ensures.some in
    left_with (λ f. TileLeafFaulty f c.args.reader.now) met c.from_residual-in_err-precertificate.result c.from_residual-in_err-precertificate.ensures.1
    (behind_extensions met c.in-Some.timestamp (entry_lent c.in_ok-entry.entry) c.in-Some-vector_2.extensions.now c.args.reader.now c.number_8.new.self
    c.entry_at.new.reader c.vector_2.new.self time.fits time.some entry.0 entry.1 more.0 more.1 (inl c.in_err-precertificate.ensures.fault))

pub returns-in_err-fingerprints-clause-fault : goal.returns-in_err-fingerprints-clause-fault
returns-in_err-fingerprints-clause-fault c =
    let met = c.in_err-fingerprints.field-0.0 in
    let time = c.in-Some.ensures in
    let entry = c.in_ok-entry.ensures.found in
    let more = c.in-Some-vector_2.ensures.some in
    let beside = c.in_ok-precertificate.ensures.found in
    left_with (λ f. TileLeafFaulty f c.args.reader.now) met c.from_residual-in_err-fingerprints.result c.from_residual-in_err-fingerprints.ensures.1
    (behind_extensions met c.in-Some.timestamp (entry_lent c.in_ok-entry.entry) c.in-Some-vector_2.extensions.now c.args.reader.now c.number_8.new.self
    c.entry_at.new.reader c.vector_2.new.self time.fits time.some entry.0 entry.1 more.0 more.1
    (inr (c.in_ok-precertificate.precertificate.now, c.precertificate_at.new.reader, beside.0, beside.1, c.in_err-fingerprints.ensures.fault)))
