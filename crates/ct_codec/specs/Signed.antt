-- The bytes that a log signs (digitally-signed, RFC 6962, 3.2 and 3.5), without the signature.
use Rattle.std.specs.Prelude.{◌++◌, ◌∷◌, ℕ, List}
use Rattle.ct_codec.specs.Bytes.{num, vec}
use Rattle.ct_codec.specs.Leaf.{SignedEntry, entry_text}

-- the signed bytes of a tree head (TreeHeadSignature): version 1 (0), the signature type tree_hash (1), the timestamp t, the tree's size n
-- and its root (RFC 6962, section 3.5)
abbrev pub tree_head_text : ℕ → ℕ → List ℕ → List ℕ
tree_head_text t n root = 0 ∷ 1 ∷ (num 8 t ++ (num 8 n ++ root))

-- the signed bytes of a signed certificate timestamp: version 1 (0), the signature type certificate_timestamp (0), the timestamp t, the
-- entry type and the signed entry of e, and the extensions x as a vector (RFC 6962, section 3.2)
abbrev pub timestamp_text : ℕ → SignedEntry → List ℕ → List ℕ
timestamp_text t e x = 0 ∷ 0 ∷ (num 8 t ++ (entry_text e ++ vec 2 x))
