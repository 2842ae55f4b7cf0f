use Rattle.std.proofs.Common.{◌≡◌, map, take}
use Rattle.ct_codec.proofs.submission.copy_certificates.Given as goal

-- the copies are the certificates so far
abbrev pub invariant-loop-certificate : goal.invariant-loop-certificate
invariant-loop-certificate g l = map (λ c. c.items) l.copies.items ≡ map (λ c. c.items) (take l.certificate-index l.certificates)
