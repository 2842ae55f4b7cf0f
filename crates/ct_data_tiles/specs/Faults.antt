-- The fault of bytes that do not begin with a tile leaf: the first from the left.
use Rattle.std.specs.Prelude.{◌≡◌, ◌<◌, ◌^◌, ◌%◌, ◌++◌, ◌⊎◌, ℕ, List, length}
use Rattle.ct_codec.specs.Bytes.{num, vec}
use Rattle.ct_codec.specs.Leaf.{SignedEntry, precertificate, IsEntry, entry_text}
use Rattle.ct_codec.specs.Faults.{VectorCut, VectorFaulty, EntryFaulty}
use Rattle.ct_codec.specs.declared.fault.DecodeFault.TheVariants.{Truncated}
use Rattle.ct_data_tiles.specs.TileLeaf.{IsBesideEntry, beside_text}
use Rattle.ct_data_tiles.specs.declared.fault.TileFault.{TileFault}
use Rattle.ct_data_tiles.specs.declared.fault.TileFault.TheVariants.{Field, PartialFingerprint}

-- The fingerprints are missing or wrong. `Truncated`: b ends before their length is complete, or before as many bytes as the length says.
-- `PartialFingerprint`: their length is not a multiple of 32.
abbrev pub FingerprintsFaulty : TileFault → List ℕ → Type 0
FingerprintsFaulty (Field Truncated) b =
    (length b < 2) ⊎ ((n : ℕ) × (r : List ℕ) × (n < 2 ^ 16) × (n % 32 ≡ 0) × (b ≡ num 2 n ++ r) × (length r < n))
FingerprintsFaulty PartialFingerprint b = (n : ℕ) × (r : List ℕ) × (n < 2 ^ 16) × (0 < n % 32) × (b ≡ num 2 n ++ r)
FingerprintsFaulty _ b = ⊥

-- the precertificate that follows the entry is missing or wrong
abbrev pub BesideFaulty : SignedEntry → TileFault → List ℕ → Type 0
BesideFaulty (precertificate k c) (Field f) b = VectorFaulty f b
BesideFaulty _ _ b = ⊥

-- the fault after the extensions of a tile leaf with entry e: that of the precertificate, or if that is valid, that of the fingerprints
abbrev pub FaultyBehindExtensions : SignedEntry → TileFault → List ℕ → Type 0
FaultyBehindExtensions e f b =
    BesideFaulty e f b ⊎ ((p r : List ℕ) × IsBesideEntry e p × (b ≡ beside_text e p ++ r) × FingerprintsFaulty f r)

-- the fault after the entry e of a tile leaf: that of the extensions, or if these are valid, that of the rest
abbrev pub FaultyBehindEntry : SignedEntry → TileFault → List ℕ → Type 0
FaultyBehindEntry e f b =
    ((f ≡ Field Truncated) × VectorCut 2 b) ⊎ ((x r : List ℕ) × (length x < 2 ^ 16) × (b ≡ vec 2 x ++ r) × FaultyBehindExtensions e f r)

-- the entry is missing or wrong, by the codec's name of the fault
abbrev pub EntryMissing : TileFault → List ℕ → Type 0
EntryMissing (Field f) b = EntryFaulty f b
EntryMissing _ b = ⊥

-- the fault after the timestamp of a tile leaf: that of the entry, or if that is valid, that of the rest
abbrev pub FaultyBehindTimestamp : TileFault → List ℕ → Type 0
FaultyBehindTimestamp f b = EntryMissing f b ⊎ ((e : SignedEntry) × (r : List ℕ) × IsEntry e × (b ≡ entry_text e ++ r) × FaultyBehindEntry e f r)

-- The fault of bytes that do not begin with a tile leaf. `Truncated`: the bytes end before a field is complete. `BadEntryType`,
-- `EmptyVector` and `PartialFingerprint`: the field is complete and wrong. Everything before the field is complete and valid.
abbrev pub TileLeafFaulty : TileFault → List ℕ → Type 0
TileLeafFaulty f b =
    ((f ≡ Field Truncated) × (length b < 8)) ⊎ ((t : ℕ) × (r : List ℕ) × (t < 2 ^ 64) × (b ≡ num 8 t ++ r) × FaultyBehindTimestamp f r)
