use Rattle.std.proofs.Common.{◌≡◌, ◌++◌, drop}
use Rattle.ct_codec.proofs.Refusals.{chain_of}
use Rattle.ct_codec.proofs.writing.push_chain.Given as goal

abbrev pub invariant-loop-certificate : goal.invariant-loop-certificate
invariant-loop-certificate g l = l.out.items ++ chain_of (drop l.certificate-index l.certificates) ≡ l.initial.out.items ++ chain_of l.certificates
