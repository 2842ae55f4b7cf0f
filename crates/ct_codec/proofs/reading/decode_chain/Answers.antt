use Rattle.std.proofs.Common.{sym, ◌∙◌}
use Rattle.ct_codec.proofs.Again.{chain_left, chain_copied}
use Rattle.ct_codec.proofs.reading.decode_chain.Goals as goal

pub returns-in_err-certificates-clause-every : goal.returns-in_err-certificates-clause-every
returns-in_err-certificates-clause-every g c cs text =
    chain_left c.from_residual.result c.in_err-certificates.field-0.0 cs c.args.bytes.now text c.from_residual.ensures.1
    (rw (← c.new-reader.ensures) c.in_err-certificates.ensures.fault)

pub returns-clause-every : goal.returns-clause-every
returns-clause-every g c cs text =
    let found = c.in_ok-certificates.ensures.found in
    let copied = c.copy_certificates.ensures in
    chain_copied cs c.args.bytes.now c.in_ok-certificates.certificates.now c.copy_certificates.result found.0 (sym c.new-reader.ensures ∙ found.1) found.2
    text copied.found copied.fault
