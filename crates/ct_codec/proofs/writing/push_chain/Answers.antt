use Rattle.std.proofs.Common.{arith}
use Rattle.ct_codec.proofs.Refusals.{one_fits}
use Rattle.ct_codec.proofs.writing.push_chain.Goals as goal

pub push_vector-requires : goal.push_vector-requires
push_vector-requires g c =
    let fits = one_fits c.args.certificates.now c.loop-certificate.certificate-index c.certificate-item.result c.loop-certificate-test.true
    c.certificate-item.is c.requires in
    omega (arith, fits, c.deref.ensures.len, c.certificate-item.result.ok.0)
