use Rattle.std.proofs.Common.{arith}
use Rattle.ct_codec.proofs.Refusals.{size_step}
use Rattle.ct_codec.proofs.writing.chain_size.Goals as goal

pub loop-certificate-preserved : goal.loop-certificate-preserved
loop-certificate-preserved g c =
    let step = size_step c.args.certificates.now c.loop-certificate.certificate-index c.certificate-item.result
    c.loop-certificate-test.true c.certificate-item.is in
    omega (arith, step, c.certificate-item.result.ok.0)
