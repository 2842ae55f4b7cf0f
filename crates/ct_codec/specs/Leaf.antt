-- The bytes of leaves and of chains (RFC 6962, 3.1, 3.2, 3.4 and 4.6).
use Rattle.std.specs.Prelude.{◌≡◌, ◌<◌, ◌^◌, ◌++◌, ◌∷◌, [], ℕ, List, length}
use Rattle.std.specs.List.{AllByRecursion, flat_map}
use Rattle.ct_codec.specs.Bytes.{num, vec}

-- The subject of a leaf: a certificate, or a precertificate, given by the hash of its issuer's key and its TBSCertificate (RFC 6962,
-- section 3.1 and 3.2).
pub data SignedEntry : Type 0 where
  certificate : List ℕ → SignedEntry
  precertificate : List ℕ → List ℕ → SignedEntry

-- c, a certificate or TBSCertificate, has 1 to 2^24 - 1 bytes (RFC 6962, section 3.1)
abbrev pub IsCertificate : List ℕ → Type 0
IsCertificate c = (0 < length c) × (length c < 2 ^ 24)

-- an entry in range: its certificate or TBSCertificate has 1 to 2^24 - 1 bytes, and the hash of a key has 32 (RFC 6962, section 3.1 and
-- 3.2)
abbrev pub IsEntry : SignedEntry → Type 0
IsEntry (certificate c) = IsCertificate c
IsEntry (precertificate k c) = (length k ≡ 32) × IsCertificate c

-- the entry type in two bytes and the signed entry (RFC 6962, section 3.4)
abbrev pub entry_text : SignedEntry → List ℕ
entry_text (certificate c) = num 2 0 ++ vec 3 c
entry_text (precertificate k c) = num 2 1 ++ (k ++ vec 3 c)

-- the number of an entry's type: 0 for a certificate, 1 for a precertificate (RFC 6962, section 3.1)
abbrev pub type_of : SignedEntry → ℕ
type_of (certificate c) = 0
type_of (precertificate k c) = 1

-- the hash of the issuer's key, or no bytes if the entry is a certificate (RFC 6962, section 3.2)
abbrev pub key_hash_of : SignedEntry → List ℕ
key_hash_of (certificate c) = []
key_hash_of (precertificate k c) = k

-- an entry's certificate or TBSCertificate
abbrev pub signed_of : SignedEntry → List ℕ
signed_of (certificate c) = c
signed_of (precertificate k c) = c

-- the bytes of the timestamped entry (TimestampedEntry, RFC 6962, 3.4) with timestamp t, entry e and extensions x: the timestamp in
-- eight bytes, the entry type and the signed entry, and the extensions as a vector
abbrev pub timestamped_text : ℕ → SignedEntry → List ℕ → List ℕ
timestamped_text t e x = num 8 t ++ (entry_text e ++ vec 2 x)

-- the bytes of the leaf with timestamp t, entry e and extensions x
abbrev pub leaf_text : ℕ → SignedEntry → List ℕ → List ℕ
leaf_text t e x = 0 ∷ 0 ∷ timestamped_text t e x

-- the extensions of a leaf that contain its index i in the log and nothing else (leaf_index, C2SP static-ct-api): the extension type 0 in
-- one byte, and the index in five bytes as a vector
abbrev pub index_extension : ℕ → List ℕ
index_extension i = 0 ∷ vec 2 (num 5 i)

-- b is the text of the leaf with timestamp t, entry e and extensions x, all in range: t is below 2^64, the entry in range, x shorter than
-- 2^16 bytes (RFC 6962, section 3.4)
pub record LeafText (t : ℕ) (e : SignedEntry) (x b : List ℕ) : Type 0 where
  pub timestamp : t < 2 ^ 64
  pub entry : IsEntry e
  pub extensions : length x < 2 ^ 16
  pub text : b ≡ leaf_text t e x

-- certificates one after the other, each as a vector
abbrev pub chain_bytes : List (List ℕ) → List ℕ
chain_bytes cs = flat_map (λ c. vec 3 c) cs

-- the bytes are certificates one after the other
abbrev pub AreCertificates : List ℕ → Type 0
AreCertificates y = (cs : List (List ℕ)) × AllByRecursion IsCertificate cs × (y ≡ chain_bytes cs)

-- the bytes of the chain of these certificates: each with a length of three bytes, under a length of three bytes (RFC 6962, section 3.1 and
-- 4.6)
abbrev pub chain_text : List (List ℕ) → List ℕ
chain_text cs = vec 3 (chain_bytes cs)

-- b is the text of the chain of these certificates. All are in range: each has 1 to 2^24 - 1 bytes, and together with their lengths they
-- have at most 2^24 - 1 bytes (RFC 6962, section 3.1 and 4.6)
pub record ChainText (cs : List (List ℕ)) (b : List ℕ) : Type 0 where
  pub certificates : AllByRecursion IsCertificate cs
  pub fits : length (chain_bytes cs) < 2 ^ 24
  pub text : b ≡ chain_text cs

-- b is the text of a precertificate c and of the chain after it (PrecertChainEntry): the certificate vector of c, which is not empty,
-- followed by the text of the chain of cs. All are in range (RFC 6962, section 3.1 and 4.6)
pub record PreChainText (c : List ℕ) (cs : List (List ℕ)) (b : List ℕ) : Type 0 where
  pub precertificate : IsCertificate c
  pub chain : ChainText cs (chain_text cs)
  pub text : b ≡ vec 3 c ++ chain_text cs

-- the fields of an entry's text, in order: a length and the bytes that it counts are two fields
abbrev pub entry_fields : SignedEntry → List (List ℕ)
entry_fields (certificate c) = num 2 0 ∷ num 3 (length c) ∷ c ∷ []
entry_fields (precertificate k c) = num 2 1 ∷ k ∷ num 3 (length c) ∷ c ∷ []

-- the fields of the text of the leaf with timestamp t, entry e and extensions x, in order
abbrev pub leaf_fields : ℕ → SignedEntry → List ℕ → List (List ℕ)
leaf_fields t e x = (0 ∷ []) ∷ (0 ∷ []) ∷ num 8 t ∷ (entry_fields e ++ (num 2 (length x) ∷ x ∷ []))

-- the entry type, and the bytes before the length of the certificate or TBSCertificate
abbrev pub entry_front : SignedEntry → List ℕ
entry_front (certificate c) = num 2 0
entry_front (precertificate k c) = num 2 1 ++ k
