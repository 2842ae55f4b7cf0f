-- Laws of certificates' names.
use Rattle.std.specs.Prelude.{◌≡◌, ◌<◌, ◌++◌, ℕ, List, length, false, Ok, Err}
use Rattle.ct_promise.specs.declared.der_fault.DerFault.TheVariants.{Truncated}
use Rattle.ct_promise.specs.declared.field.Place.TheVariants as at
use Rattle.ct_promise.specs.Tbs.{Parts, IsParted, IsWithout, IsTbsOf}
use Rattle.ct_names.specs.Names.{Named, is_alt}
use Rattle.ct_names.specs.Reading.{certificate_names, bare_names}
use Rattle.ct_promise.specs.DerLaws.{IsBytes}
use Rattle.std.specs.Bool.{Decides}
use Rattle.ct_names.specs.Covers.{covered, Covers}
use Rattle.ct_names.specs.Certificate.{NamesOf, BareNamesOf}

-- The names of each certificate in the grammar are read.
abbrev pub CertificatesAreRead : Type 0
CertificatesAreRead = (ns : List Named) (b : List ℕ) → NamesOf ns b → certificate_names b ≡ Ok ns

-- .. and those of each TBSCertificate are read
abbrev pub BareCertificatesAreRead : Type 0
BareCertificatesAreRead = (ns : List Named) (b : List ℕ) → BareNamesOf ns b → bare_names b ≡ Ok ns

-- No bytes have two readings.
abbrev pub CertificatesHaveOneReading : Type 0
CertificatesHaveOneReading = (ns ms : List Named) (b : List ℕ) → NamesOf ns b → NamesOf ms b → ns ≡ ms

-- Each proper prefix of a certificate is refused, as truncated.
abbrev pub BeginningsAreRefused : Type 0
BeginningsAreRefused =
    (ns : List Named) (b y s : List ℕ) → NamesOf ns b → 0 < length s → b ≡ y ++ s
    → certificate_names y ≡ Err (record { place = at.Certificate; fault = Truncated })

-- Each proper prefix of a TBSCertificate is refused, as truncated.
abbrev pub BareBeginningsAreRefused : Type 0
BareBeginningsAreRefused =
    (ns : List Named) (b y s : List ℕ) → BareNamesOf ns b → 0 < length s → b ≡ y ++ s
    → bare_names y ≡ Err (record { place = at.Tbs; fault = Truncated })

-- A name covers a watched one if and only if it is that name or below it, or a wildcard over it, by labels.
abbrev pub CoveringIsByLabels : Type 0
CoveringIsByLabels = (name watched : List ℕ) → Decides (covered name watched) (Covers name watched)

-- Bytes that are read as a certificate are one in the grammar, with these names.
abbrev pub ReadCertificatesAreThere : Type 0
ReadCertificatesAreThere = (ns : List Named) (b : List ℕ) → IsBytes b → certificate_names b ≡ Ok ns → NamesOf ns b

-- If an extension other than subjectAltName is cut out of a TBSCertificate, its names stay the same.
abbrev pub NamesStayUnderTheCut : Type 0
NamesStayUnderTheCut =
    (identifier : List ℕ) (p : Parts) (b c : List ℕ) (ns : List Named) → is_alt identifier ≡ false → IsParted identifier p b → IsWithout p c
    → BareNamesOf ns b → BareNamesOf ns c

-- A certificate has the names of its TBSCertificate.
abbrev pub NamesAreOfTheTbs : Type 0
NamesAreOfTheTbs = (tbs b : List ℕ) (ns : List Named) → IsTbsOf tbs b → NamesOf ns b → BareNamesOf ns tbs
