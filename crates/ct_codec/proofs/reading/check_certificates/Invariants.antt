use Rattle.std.proofs.Common.{ℕ, List, length}
use Rattle.ct_codec.proofs.Chains.{Walked}
use Rattle.ct_codec.proofs.reading.check_certificates.Given as goal

-- the bytes that were read are certificates
abbrev pub invariant-certificates : goal.invariant-certificates
invariant-certificates l = (cs : List (List ℕ)) × Walked cs l.bytes l.reader

abbrev pub decreases-certificates : goal.decreases-certificates
decreases-certificates l = length l.reader
