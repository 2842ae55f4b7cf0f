use Rattle.std.proofs.Common.{[], refl, sym, ◌∙◌}
use Rattle.ct_codec.specs.Faults.{PreChainFaulty}
use Rattle.ct_codec.specs.Decoded.{certificates_in}
use Rattle.ct_codec.proofs.Exits.{left_with}
use Rattle.ct_codec.proofs.Chains.{before, behind, chain_copy, pre_chain_text_of}
use Rattle.ct_codec.proofs.Apart.{pre_chains_stand_apart}
use Rattle.ct_codec.proofs.Again.{pre_chain_left}
use Rattle.ct_codec.proofs.reading.decode_pre_chain.Goals as goal

pub returns-in_err-first-clause-every : goal.returns-in_err-first-clause-every
returns-in_err-first-clause-every g c d cs text =
    let met = c.in_err-first.field-0.0 in
    pre_chain_left c.from_residual.result met d cs c.args.bytes.now text c.from_residual.ensures.1
    (before met c.args.bytes.now (rw (← c.new-reader.ensures) c.in_err-first.ensures.fault))

pub returns-in_err-others-clause-every : goal.returns-in_err-others-clause-every
returns-in_err-others-clause-every g c d cs text =
    let found = c.in_ok-first.ensures.found in
    let met = c.in_err-others.field-0.0 in
    pre_chain_left c.from_residual-in_err-others.result met d cs c.args.bytes.now text c.from_residual-in_err-others.ensures.1
    (behind met c.args.bytes.now c.in_ok-first.first.now c.certificate.new.self found.0 (sym c.new-reader.ensures ∙ found.1) c.in_err-others.ensures.fault)

pub returns-in_err-certificates-clause-every :
    goal.returns-in_err-certificates-clause-every
returns-in_err-certificates-clause-every g c d cs text =
    let first = c.in_ok-first.ensures.found in
    let others = c.in_ok-others.ensures.found in
    let met = c.in_err-certificates.field-0.0 in
    let stands = chain_copy met c.certificate.new.self c.in_ok-others.others.now others.0 others.1 others.2 c.in_err-certificates.ensures.fault in
    pre_chain_left c.from_residual-in_err-certificates.result met d cs c.args.bytes.now text c.from_residual-in_err-certificates.ensures.1
    (behind met c.args.bytes.now c.in_ok-first.first.now c.certificate.new.self first.0 (sym c.new-reader.ensures ∙ first.1) stands)

pub returns-in_err-certificates-clause-fault :
    goal.returns-in_err-certificates-clause-fault
returns-in_err-certificates-clause-fault g c =
    let first = c.in_ok-first.ensures.found in
    let others = c.in_ok-others.ensures.found in
    let met = c.in_err-certificates.field-0.0 in
    let stands = chain_copy met c.certificate.new.self c.in_ok-others.others.now others.0 others.1 others.2 c.in_err-certificates.ensures.fault in
    left_with (λ f. PreChainFaulty f c.args.bytes.now) met c.from_residual-in_err-certificates.result c.from_residual-in_err-certificates.ensures.1
    (behind met c.args.bytes.now c.in_ok-first.first.now c.certificate.new.self first.0 (sym c.new-reader.ensures ∙ first.1) stands)

pub returns-clause-every : goal.returns-clause-every
returns-clause-every g c d cs text =
    let first = c.in_ok-first.ensures.found in
    let others = c.in_ok-others.ensures.found in
    let copied = c.in_ok-certificates.ensures.found in
    let read = pre_chain_text_of c.in_ok-first.first.now (certificates_in c.in_ok-certificates.certificates) c.args.bytes.now c.certificate.new.self
    c.in_ok-others.others.now first.0 (sym c.new-reader.ensures ∙ first.1) copied.0 others.0 others.1 copied.1 in
    let same = pre_chains_stand_apart c.in_ok-first.first.now d (certificates_in c.in_ok-certificates.certificates) cs c.args.bytes.now
    c.args.bytes.now [] [] read text refl in
    ((c.in_ok-precertificate.ensures.items ∙ same.0, same.1), tt)
