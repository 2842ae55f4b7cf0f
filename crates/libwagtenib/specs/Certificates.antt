-- The codes and the bytes that a call over certificates returns and writes (RFC 6962, sections 3.1 to 3.4).
use Rattle.std.specs.Prelude.{◌≡◌, ◌⊎◌, ◌<◌, ◌≤◌, ◌+◌, ◌^◌, ℕ, List, length, Result, Err}
use Rattle.sha2.specs.Sha256.{sha256}
use Rattle.ct_promise.specs.declared.der_fault.DerFault.{DerFault}
use Rattle.ct_promise.specs.declared.der_fault.DerFault.TheVariants as der
use Rattle.ct_promise.specs.Promise.{promised_entry_at, promised_at, IsEntryOf, IsPromised, IsPromiseKept, StandsInAll}
use Rattle.ct_promise.specs.declared.fault.CutFault.{CutFault}
use Rattle.ct_promise.specs.declared.fault.CutFault.TheVariants as cut
use Rattle.ct_promise.specs.declared.fault.Document.{Document}
use Rattle.ct_promise.specs.declared.fault.Document.TheVariants as of
use Rattle.ct_promise.specs.declared.fault.Unfit.{Unfit}
use Rattle.ct_promise.specs.declared.fault.Unfit.TheVariants as unfit
use Rattle.ct_promise.specs.declared.field.Place.{Place}
use Rattle.ct_promise.specs.declared.field.Place.TheVariants as at
use Rattle.ct_tree.specs.Tree.{hash_leaf}
use Rattle.ct_verify.specs.Verdict.{RefusesInclusion}
use Rattle.ct_verify.specs.declared.fault.ProofFault.{ProofFault}
use Rattle.libwagtenib.specs.Codes.{proof_code}
use Rattle.libwagtenib.specs.Output.{WritesOutput}

-- the number of a fault of an element of DER; include/wagtenib.h has the same
abbrev pub der_code : DerFault → ℕ
der_code der.Truncated = 80
der_code der.LongTag = 81
der_code der.IndefiniteLength = 82
der_code der.LongLength = 83
der_code der.PaddedLength = 84
der_code der.OtherTag = 85
der_code der.Trailing = 86

-- the number of the reason why an extension cannot be cut out; include/wagtenib.h has the same
abbrev pub cut_code : CutFault → ℕ
cut_code (cut.At u) = der_code u.fault
cut_code cut.NoExtension = 87
cut_code cut.SecondExtension = 88

-- the number of the reason why a certificate gives no entry and no leaf; include/wagtenib.h has the same
abbrev pub unfit_code : Unfit → ℕ
unfit_code (unfit.Uncut d f) = cut_code f
unfit_code unfit.BadPoison = 89
unfit_code unfit.TooLong = 90

-- the number of a field of a certificate; include/wagtenib.h has the same
abbrev pub place_number : Place → ℕ
place_number at.Certificate = 1
place_number at.Tbs = 2
place_number at.OuterAlgorithm = 3
place_number at.Signature = 4
place_number at.Version = 5
place_number at.Serial = 6
place_number at.Algorithm = 7
place_number at.Issuer = 8
place_number at.Validity = 9
place_number at.Subject = 10
place_number at.Key = 11
place_number at.IssuerId = 12
place_number at.SubjectId = 13
place_number at.Extensions = 14
place_number at.AltNames = 15

-- a field of the issuer's certificate has a number that is greater by 16
abbrev pub document_number : Document → ℕ
document_number of.Certificate = 0
document_number of.Issuer = 16

-- the field in which the reason is: that of the element, or the extensions
abbrev pub cut_place : CutFault → Place
cut_place (cut.At u) = u.place
cut_place cut.NoExtension = at.Extensions
cut_place cut.SecondExtension = at.Extensions

-- the number of the field in which the reason is, of the certificate or of its issuer's
abbrev pub unfit_field : Unfit → ℕ
unfit_field (unfit.Uncut d f) = document_number d + place_number (cut_place f)
unfit_field unfit.BadPoison = 14
unfit_field unfit.TooLong = 2

-- reading the certificates gives nothing: this is the number of the first reason, and that of its field
abbrev pub TellsUnfit : Result (List ℕ) Unfit → ℕ → ℕ → Type 0
TellsUnfit read code field = (u : Unfit) × (read ≡ Err u) × (code ≡ unfit_code u) × (field ≡ unfit_field u)

-- A call writes a text for which `Is` holds, or says why reading gives none. 0 or 9: as WritesOutput says. 8: an allocation was refused. Only the number of
-- the field is written if reading gives none, and it is not written otherwise.
abbrev pub WritesRead : (List ℕ → Type 0) → Result (List ℕ) Unfit → ℕ → List ℕ → List ℕ → ℕ → ℕ → ℕ → ℕ → Type 0
WritesRead Is read code before after count_before count field_before field =
    ((text : List ℕ) × Is text × WritesOutput text code before after count × (field ≡ field_before))
    ⊎ ((TellsUnfit read code field × (after ≡ before) × (count ≡ count_before))
    ⊎ ((code ≡ 8) × (after ≡ before) × (count ≡ count_before) × (field ≡ field_before)))

-- the entry of the precertificate with this TBSCertificate is written, or why there is none (RFC 6962, section 3.2)
abbrev pub WritesEntry : List ℕ → ℕ → List ℕ → List ℕ → ℕ → ℕ → ℕ → ℕ → Type 0
WritesEntry tbs code before after count_before count field_before field =
    WritesRead (IsEntryOf tbs) (promised_entry_at tbs) code before after count_before count field_before field

-- The leaf that a timestamp t with extensions x in this certificate promises is written, or why there is none (RFC 6962, section 3.4). 91: the extensions
-- have 2^16 bytes or more, and nothing is written.
abbrev pub WritesPromised : List ℕ → List ℕ → ℕ → List ℕ → ℕ → List ℕ → List ℕ → ℕ → ℕ → ℕ → ℕ → Type 0
WritesPromised certificate issuer t x code before after count_before count field_before field =
    ((length x < 2 ^ 16)
    × WritesRead (IsPromised certificate issuer t x) (promised_at certificate issuer t x) code before after count_before count field_before field)
    ⊎ ((2 ^ 16 ≤ length x) × (code ≡ 91) × (after ≡ before) × (count ≡ count_before) × (field ≡ field_before))

-- the leaf that was promised is not in the tree at this index by this path: this is the number of the reason
abbrev pub RefusesIncluded : List ℕ → List ℕ → ℕ → List ℕ → ℕ → ℕ → List (List ℕ) → List ℕ → ℕ → Type 0
RefusesIncluded certificate issuer t x index size path root code =
    (leaf : List ℕ) × (f : ProofFault) × IsPromised certificate issuer t x leaf
    × RefusesInclusion sha256 (hash_leaf sha256 leaf) index size path root f × (code ≡ proof_code f)

-- Whether the leaf that was promised is in the tree with this root. 0: the path leads from it to the root, so it is in each list with this root at this
-- index, or two different strings with one hash are given. 1 to 4: the path does not. 80 to 90: there is no such leaf, and the field is written. 91: the
-- extensions have 2^16 bytes or more. 8: an allocation was refused.
abbrev pub ChecksPromise : List ℕ → List ℕ → ℕ → List ℕ → ℕ → ℕ → List (List ℕ) → List ℕ → ℕ → ℕ → ℕ → Type 0
ChecksPromise certificate issuer t x index size path root code field_before field =
    ((length x < 2 ^ 16)
    × (((code ≡ 0) × IsPromiseKept certificate issuer t x index size path root × StandsInAll certificate issuer t x index size path root
    × (field ≡ field_before))
    ⊎ ((RefusesIncluded certificate issuer t x index size path root code × (field ≡ field_before))
    ⊎ (TellsUnfit (promised_at certificate issuer t x) code field ⊎ ((code ≡ 8) × (field ≡ field_before))))))
    ⊎ ((2 ^ 16 ≤ length x) × (code ≡ 91) × (field ≡ field_before))
