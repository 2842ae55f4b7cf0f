-- The bytes of an entry that a hash table by identity hashes.
use Rattle.std.specs.Prelude.{List, [], ◌∷◌, ◌++◌, ℕ, take, drop}
use Rattle.ct_codec.specs.Bytes.{vec}
use Rattle.ct_codec.specs.Leaf.{SignedEntry, certificate, precertificate}

-- The certificate; or the hash of the issuer's key, of 32 bytes, and the TBSCertificate, as they are in the identity. So it is a function
-- of the identity, whatever the lengths are.
abbrev pub hashed_of : SignedEntry → List (List ℕ)
hashed_of (certificate c) = c ∷ []
hashed_of (precertificate k c) = take 32 (k ++ vec 3 c) ∷ drop 3 (drop 32 (k ++ vec 3 c)) ∷ []
