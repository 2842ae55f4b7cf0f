-- The bytes of a certificate's names, in the presentation language of RFC 5246 (section 4).
use Rattle.std.specs.Prelude.{◌≡◌, ◌<◌, ◌^◌, ℕ, List, ◌∷◌, All, length, Result}
use Rattle.std.specs.List.{flat_map}
use Rattle.ct_codec.specs.Bytes.{vec}
use Rattle.ct_names.specs.Certificate.{NamesOf, BareNamesOf}
use Rattle.ct_names.specs.Names.{Named}
use Rattle.ct_names.specs.Reading.{certificate_names, bare_names}
use Rattle.ct_names.specs.declared.name.NameKind.{NameKind}
use Rattle.ct_names.specs.declared.name.NameKind.TheVariants as kind
use Rattle.ct_promise.specs.declared.field.Unread.{Unread}
use Rattle.ct_names.specs.declared.name_bytes.EntryKind.{EntryKind}
use Rattle.ct_names.specs.declared.name_bytes.EntryKind.TheVariants as entry

-- the number of a kind of names; include/wagtenib.h has the same
abbrev pub kind_number : NameKind → ℕ
kind_number kind.Common = 1
kind_number kind.WideCommon = 2
kind_number kind.WidestCommon = 3
kind_number kind.Dns = 4
kind_number kind.Mail = 5
kind_number kind.Uri = 6
kind_number kind.Address = 7

-- a name: the number of its kind in one byte, the length of its bytes in 8 bytes, and its bytes
abbrev pub name_bytes : Named → List ℕ
name_bytes n = kind_number n.kind ∷ vec 8 n.bytes

-- names, one after the other
abbrev pub names_bytes : List Named → List ℕ
names_bytes ns = flat_map name_bytes ns

-- the result of reading the names of an entry's certificate, or of its TBSCertificate in place of a precertificate (RFC 6962, section 3.1)
abbrev pub names_read : EntryKind → List ℕ → Result (List Named) Unread
names_read entry.X509 b = certificate_names b
names_read entry.Precert b = bare_names b

-- ns are the names of the certificate b, or of the TBSCertificate b, by the grammar of RFC 5280 (section 4)
abbrev pub AreNames : EntryKind → List Named → List ℕ → Type 0
AreNames entry.X509 ns b = NamesOf ns b
AreNames entry.Precert ns b = BareNamesOf ns b

-- the text is the bytes of the names of b
abbrev pub IsNamesText : EntryKind → List ℕ → List ℕ → Type 0
IsNamesText e b text = (ns : List Named) × AreNames e ns b × (text ≡ names_bytes ns)

-- the length of a name's bytes fits in 64 bits, as it does for each name in memory
abbrev pub HasLength : Named → Type 0
HasLength n = length n.bytes < 2 ^ 64

-- The bytes of names are the bytes of no other names.
abbrev pub NamesTextsDiffer : Type 0
NamesTextsDiffer = (ns ms : List Named) → All HasLength ns → All HasLength ms → names_bytes ns ≡ names_bytes ms → ns ≡ ms
