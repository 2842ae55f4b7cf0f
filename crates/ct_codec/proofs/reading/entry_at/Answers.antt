use Rattle.std.proofs.Common.{◌≡◌, ◌++◌, ◌∙◌, ap}
use Rattle.ct_codec.specs.Bytes.{num}
use Rattle.ct_codec.specs.Faults.{EntryFaulty}
use Rattle.ct_codec.proofs.Exits.{left_with}
use Rattle.ct_codec.proofs.Leaves.{entry_cut_type, entry_cut_key, x509_fault, precert_fault}
use Rattle.ct_codec.proofs.reading.entry_at.Goals as goal

pub returns-in_default-clause-fault : goal.returns-in_default-clause-fault
returns-in_default-clause-fault c = entry_cut_type c.args.reader.now c.in_default.ensures.none

pub returns-in_default-key_hash-clause-fault : goal.returns-in_default-key_hash-clause-fault
returns-in_default-key_hash-clause-fault c =
    let front : c.args.reader.now ≡ num 2 1 ++ c.number_2.new.self = rw (← c.in-1.is) c.in-Some.ensures.some in
    entry_cut_key c.args.reader.now c.number_2.new.self front c.in_default-key_hash.ensures.none

pub returns-in_err-certificate-in-0-clause-fault :
    goal.returns-in_err-certificate-in-0-clause-fault
returns-in_err-certificate-in-0-clause-fault c =
    let front : c.args.reader.now ≡ num 2 0 ++ c.number_2.new.self = rw (← c.in-0.is) c.in-Some.ensures.some in
    let met = c.in_err-certificate-in-0.field-0.0 in
    left_with (λ f. EntryFaulty f c.args.reader.now) met c.from_residual.result c.from_residual.ensures.1
    (x509_fault met c.args.reader.now c.number_2.new.self front c.in_err-certificate-in-0.ensures.fault)

pub returns-in_err-certificate-in-1-clause-fault :
    goal.returns-in_err-certificate-in-1-clause-fault
returns-in_err-certificate-in-1-clause-fault c =
    let front : c.args.reader.now ≡ num 2 1 ++ c.number_2.new.self = rw (← c.in-1.is) c.in-Some.ensures.some in
    let key = c.in-Some-key_hash.ensures.some in
    let met = c.in_err-certificate-in-1.field-0.0 in
    left_with (λ f. EntryFaulty f c.args.reader.now) met c.from_residual-in_err-certificate-in-1.result c.from_residual-in_err-certificate-in-1.ensures.1
    (precert_fault met c.args.reader.now c.in-Some-key_hash.key_hash.now c.key_hash.new.self key.0 (front ∙ ap (λ l. num 2 1 ++ l) key.1)
    c.in_err-certificate-in-1.ensures.fault)
