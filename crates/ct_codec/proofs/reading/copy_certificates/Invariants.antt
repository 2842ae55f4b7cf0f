use Rattle.std.proofs.Common.{length, map}
use Rattle.ct_codec.proofs.Chains.{Walked}
use Rattle.ct_codec.proofs.reading.copy_certificates.Given as goal

-- the bytes that were read are the certificates
abbrev pub invariant-certificates : goal.invariant-certificates
invariant-certificates g l = Walked (map (λ c. c.items) l.certificates.items) l.bytes l.reader

abbrev pub decreases-certificates : goal.decreases-certificates
decreases-certificates g l = length l.reader
