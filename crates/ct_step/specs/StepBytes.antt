-- The meaning of the bytes that a call receives: a batch, and the contents of the objects at a log's right edge.
use Rattle.std.specs.Prelude.{◌≡◌, ◌<◌, ◌^◌, ◌/◌, ◌&&◌, ℕ, List, [], ◌∷◌, length, All, Bool, nat_eq, nat_lt, if◌then◌else◌, Option, Some, None, option_map, option_and_then}
use Rattle.std.specs.List.{flat_map}
use Rattle.std.specs.Result.{result_ok}
use Rattle.core.specs.Simd.{first_chunks}
use Rattle.ct_codec.specs.Bytes.{vec}
use Rattle.ct_codec.specs.Leaf.{SignedEntry, certificate, precertificate}
use Rattle.ct_codec.specs.Submitted.{Submitted, x509, precert, refusal_of, admitted}
use Rattle.ct_data_tiles.specs.DataTile.{IsDataTile}
use Rattle.ct_data_tiles.specs.TileLeaf.{Tiled}
use Rattle.ct_step.specs.StepRepeats.{BatchEntry}
use Rattle.ct_step.specs.declared.entry.Entry.{Entry}

-- the submission and the chain's fingerprints of the code's entry
abbrev pub entry_parts : Entry → BatchEntry
entry_parts e = (e.submission, e.chain.items)

-- the submission, if its lengths are in range (RFC 6962, section 3.1)
abbrev pub in_range : Submitted → Option Submitted
in_range s = result_ok (admitted s (refusal_of s))

-- the submission of a certificate
abbrev pub certificate_in : List ℕ → Option Submitted
certificate_in c = in_range (x509 (c ∷ []))

-- the submission of a precertificate, by the hash of its issuer's key, its TBSCertificate and itself (RFC 6962, section 3.2)
abbrev pub precertificate_in : List ℕ → List ℕ → List ℕ → Option Submitted
precertificate_in k t p = in_range (precert k t (p ∷ []))

-- the submission of an entry that is followed by this precertificate
abbrev pub submitted_in : SignedEntry → List ℕ → Option Submitted
submitted_in (certificate c) p = certificate_in c
submitted_in (precertificate k t) p = precertificate_in k t p

-- the fingerprints of a chain, each of 32 bytes, if there are at most 2,047
abbrev pub chain_in : List ℕ → Option (List (List ℕ))
chain_in fs = if nat_lt (length fs / 32) 2048 then Some (first_chunks 32 (length fs / 32) fs) else None

-- a tile leaf is a submission's: its timestamp is 0, and it has no extensions
abbrev pub is_submitted : Tiled → Bool
is_submitted l = nat_eq l.timestamp 0 && nat_eq (length l.extensions) 0

-- the submission that a tile leaf represents, with its chain's fingerprints
abbrev pub submission_in : Tiled → Option BatchEntry
submission_in l =
    if is_submitted l then option_and_then (λ chain. option_map (λ s. (s, chain)) (submitted_in l.entry l.precertificate)) (chain_in l.fingerprints) else None

-- the submissions that tile leaves represent, if each represents one
abbrev pub batch_in : List Tiled → Option (List BatchEntry)
batch_in [] = Some []
batch_in (l ∷ ls) = option_and_then (λ e. option_map (λ es. e ∷ es) (batch_in ls)) (submission_in l)

-- The bytes are this batch: tile leaves one after the other, as in a data tile (TileLeaf, C2SP static-ct-api), each of which represents a
-- submission. Or they are not a batch.
abbrev pub IsBatchText : List ℕ → Option (List BatchEntry) → Type 0
IsBatchText bytes (Some batch) = (L : List Tiled) × IsDataTile L bytes × (batch_in L ≡ Some batch)
IsBatchText bytes None = (L : List Tiled) → IsDataTile L bytes → batch_in L ≡ None

-- a content whose length has 8 bytes
abbrev pub FitsIn8 : List ℕ → Type 0
FitsIn8 content = length content < 2 ^ 64

-- the bytes are these contents, one after the other, each as a vector whose length has 8 bytes
pub record AreContents (contents : List (List ℕ)) (bytes : List ℕ) : Type 0 where
  pub fit : All FitsIn8 contents
  pub text : bytes ≡ flat_map (vec 8) contents

-- the bytes are these contents, or they are not contents
abbrev pub IsContentsText : List ℕ → Option (List (List ℕ)) → Type 0
IsContentsText bytes (Some contents) = AreContents contents bytes
IsContentsText bytes None = (contents : List (List ℕ)) → AreContents contents bytes → ⊥
