use Rattle.std.proofs.Common.{◌≡◌, ◌+◌, drop}
use Rattle.ct_codec.proofs.Refusals.{chain_size}
use Rattle.ct_codec.proofs.writing.chain_size.Given as goal

abbrev pub invariant-loop-certificate : goal.invariant-loop-certificate
invariant-loop-certificate g l = l.size + chain_size (drop l.certificate-index l.certificates) ≡ chain_size l.certificates
