-- The numbers by which the exported functions answer.
use Rattle.std.specs.Prelude.{◌≡◌, ◌≢◌, ◌⊎◌, ℕ, List, length}
use Rattle.ct_codec.specs.Leaf.{SignedEntry, LeafText, type_of, signed_of}
use Rattle.ct_codec.specs.Faults.{LeafFaulty}
use Rattle.ct_codec.specs.declared.fault.DecodeFault.{DecodeFault}
use Rattle.ct_codec.specs.declared.fault.DecodeFault.TheVariants.{Truncated, BadVersion, BadLeafType, BadEntryType, EmptyVector, Trailing, Memory}
use Rattle.ct_guard.specs.declared.refusal.HeadRefusal.{HeadRefusal}
use Rattle.ct_guard.specs.declared.refusal.HeadRefusal.TheVariants.{SizeFalls, MomentNotLater, Fork, Inconsistent}
use Rattle.ct_guard.specs.declared.refusal.ReceiptRefusal.{ReceiptRefusal}
use Rattle.ct_guard.specs.declared.refusal.ReceiptRefusal.TheVariants.{NoHead, NoLeaf, NotThere, LaterLeaf, OtherIndex}
use Rattle.ct_verify.specs.declared.fault.ProofFault.{ProofFault}
use Rattle.ct_verify.specs.declared.fault.ProofFault.TheVariants.{IndexOutOfRange, PathTooLong, PathTooShort, RootMismatch, EmptyPath, FirstMismatch}
use Rattle.ct_verify.specs.declared.fault.ProofFault.TheVariants.{SizesOutOfRange}
use Rattle.ct_witness.specs.declared.refusal.WitnessRefusal.{WitnessRefusal}
use Rattle.ct_witness.specs.declared.refusal.WitnessRefusal.TheVariants.{OldAbove, NotLast, Fork as ForkedTree, ProofNotEmpty, Inconsistent as Unproved}
use Rattle.libwagtenib.specs.declared.leaf.LeafInfo.{LeafInfo}

-- the number that a proof's fault has in C; include/wagtenib.h has the same
abbrev pub proof_code : ProofFault → ℕ
proof_code IndexOutOfRange = 1
proof_code PathTooLong = 2
proof_code PathTooShort = 3
proof_code RootMismatch = 4
proof_code EmptyPath = 5
proof_code FirstMismatch = 6
proof_code SizesOutOfRange = 7

-- 0 and the proof is accepted, or the number of its fault
abbrev pub Judges : ℕ → Type 0 → (ProofFault → Type 0) → Type 0
Judges code accepts refuses = ((code ≡ 0) × accepts) ⊎ ((f : ProofFault) × (code ≡ proof_code f) × refuses f)

-- the number that a leaf's fault has in C; include/wagtenib.h has the same
abbrev pub leaf_code : DecodeFault → ℕ
leaf_code Memory = 8
leaf_code Truncated = 17
leaf_code BadVersion = 18
leaf_code BadLeafType = 19
leaf_code BadEntryType = 20
leaf_code EmptyVector = 21
leaf_code Trailing = 22

-- the number that the refusal of a tree head has in C; include/wagtenib.h has the same
abbrev pub head_code : HeadRefusal → ℕ
head_code SizeFalls = 32
head_code MomentNotLater = 33
head_code Fork = 34
head_code (Inconsistent f) = proof_code f

-- the number that the refusal of a receipt has in C; include/wagtenib.h has the same
abbrev pub receipt_code : ReceiptRefusal → ℕ
receipt_code NoHead = 36
receipt_code (NoLeaf f) = leaf_code f
receipt_code (NotThere f) = proof_code f
receipt_code LaterLeaf = 38
receipt_code OtherIndex = 39

-- the number that the refusal of a tree by a witness has in C; include/wagtenib.h has the same
abbrev pub tree_code : WitnessRefusal → ℕ
tree_code OldAbove = 98
tree_code NotLast = 99
tree_code ForkedTree = 34
tree_code ProofNotEmpty = 100
tree_code (Unproved f) = proof_code f

-- how long an entry's certificate or TBSCertificate is (RFC 6962, section 3.1)
abbrev pub certificate_length : SignedEntry → ℕ
certificate_length e = length (signed_of e)

-- the bytes are the text of a leaf, of which the information has the timestamp, the entry type and the lengths (RFC 6962, section 3.4)
abbrev pub Describes : LeafInfo → List ℕ → Type 0
Describes info bytes = (e : SignedEntry) × (x : List ℕ) × LeafText info.timestamp e x bytes × (info.entry_type ≡ type_of e)
    × (info.certificate_length ≡ certificate_length e) × (info.extensions_length ≡ length x)

-- 0, and the new information describes the leaf that the bytes are; or the number of their first fault (never that of `Memory`), and
-- nothing was written
abbrev pub DecodesLeaf : ℕ → LeafInfo → LeafInfo → List ℕ → Type 0
DecodesLeaf code before after bytes = ((code ≡ 0) × Describes after bytes)
    ⊎ ((f : DecodeFault) × (code ≡ leaf_code f) × (f ≢ Memory) × LeafFaulty f bytes × (after ≡ before))
