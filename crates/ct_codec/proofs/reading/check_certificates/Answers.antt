use Rattle.std.proofs.Common.{[], ◌∷◌, ◌++◌}
use Rattle.ct_codec.proofs.Chains.{one_more}
use Rattle.ct_codec.proofs.reading.check_certificates.Goals as goal

pub certificates-preserved : goal.certificates-preserved
certificates-preserved c =
    let found = c.in_ok-certificate.ensures.found in
    let certificate = c.in_ok-certificate.field-0.now in
    let walked = c.certificates.invariant in
    (walked.0 ++ certificate ∷ [], one_more walked.0 certificate c.args.bytes.now c.certificates.reader c.certificate.new.self walked.1 found.0 found.1)
