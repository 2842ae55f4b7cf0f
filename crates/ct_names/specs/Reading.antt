-- Names read from a certificate, with the first fault that reading finds (RFC 5280, section 4).
use Rattle.std.specs.Prelude.{◌≡◌, ◌++◌, ℕ, zero, suc, List, [], ◌∷◌, length, Result, Ok, Err, ◌==◌, if◌then◌else◌}
use Rattle.ct_promise.specs.DerReading.{◌>>=◌, element_at, expected_at, only_at, optional_at}
use Rattle.ct_promise.specs.declared.der_fault.DerFault.{DerFault}
use Rattle.ct_promise.specs.declared.der_fault.DerFault.TheVariants.{OtherTag, Trailing}
use Rattle.ct_promise.specs.declared.field.Place.{Place}
use Rattle.ct_promise.specs.declared.field.Place.TheVariants as at
use Rattle.ct_promise.specs.declared.field.Unread.{Unread}
use Rattle.ct_names.specs.declared.fault.NamesFault.{NamesFault}
use Rattle.ct_names.specs.declared.fault.NamesFault.TheVariants as faults
use Rattle.ct_names.specs.Names.{Named, is_alt, is_bad_alt, is_bad_common, alt_of, common_of}

-- the result of reading an element; a fault is returned with the field
abbrev pub placed : {X : Type 0} → Place → Result X DerFault → Result X Unread
placed p (Ok x) = Ok x
placed p (Err f) = Err (record { place = p; fault = f })

-- the fault of a function is the fault of reading, unless memory ran out
abbrev pub Fails : {Y : Type 0} → NamesFault → Result Y Unread → Type 0
Fails faults.Memory read = Unit {0}
Fails (faults.At u) read = read ≡ Err u

-- the result of a function, seen through view, is the result of reading, unless memory ran out
abbrev pub GivesNames : {X Y : Type 0} → (X → Y) → Result X NamesFault → Result Y Unread → Type 0
GivesNames view (Ok x) read = read ≡ Ok (view x)
GivesNames view (Err e) read = Fails e read

-- the names from the reading of an item are added after the old ones, and the remaining bytes are the result
abbrev pub Adds : {X : Type 0} → (X → List ℕ) → List Named → List Named → Result X NamesFault → Result (List Named × List ℕ) Unread → Type 0
Adds view old new (Ok x) read = (more : List Named) × (read ≡ Ok (more, view x)) × (new ≡ old ++ more)
Adds view old new (Err e) read = Fails e read

-- the names from the reading of all items are added after the old ones
abbrev pub AddsAll : {X : Type 0} → List Named → List Named → Result X NamesFault → Result (List Named) Unread → Type 0
AddsAll old new (Ok x) read = (more : List Named) × (read ≡ Ok more) × (new ≡ old ++ more)
AddsAll old new (Err e) read = Fails e read

-- the names of items read one after the other, at most n of them, to the end of the bytes
unfoldable pub each : (List ℕ → Result (List Named × List ℕ) Unread) → ℕ → List ℕ → Result (List Named) Unread
each item zero b = Ok []
each item (suc n) [] = Ok []
each item (suc n) (x ∷ b) = item (x ∷ b) >>= λ r. each item n r.1 >>= λ ns. Ok (r.0 ++ ns)

-- .. of all items: each has some bytes, so there are not more items than bytes
abbrev pub all_of : (List ℕ → Result (List Named × List ℕ) Unread) → List ℕ → Result (List Named) Unread
all_of item b = each item (length b) b

-- the name of a general name, and the bytes after it (RFC 5280, section 4.2.1.6)
unfoldable pub alt_at : List ℕ → Result (List Named × List ℕ) Unread
alt_at b = placed at.AltNames (element_at b) >>= λ e.
    if is_bad_alt e.0 then Err (record { place = at.AltNames; fault = OtherTag }) else Ok (alt_of e.0 e.1, e.2)

-- the names of an attribute, and the bytes after it (RFC 5280, section 4.1.2.4)
unfoldable pub attribute_at : List ℕ → Result (List Named × List ℕ) Unread
attribute_at b = do
  pair ← placed at.Subject (expected_at 48 b)
  oid ← placed at.Subject (expected_at 6 pair.0)
  value ← placed at.Subject (element_at oid.1)
  if length value.2 == 0
      then (if is_bad_common oid.0 value.0 then Err (record { place = at.Subject; fault = OtherTag }) else Ok (common_of oid.0 value.0 value.1, pair.1))
      else Err (record { place = at.Subject; fault = Trailing })

-- the names of a relative distinguished name, and the bytes after it (RFC 5280, section 4.1.2.4)
unfoldable pub rdn_at : List ℕ → Result (List Named × List ℕ) Unread
rdn_at b = do
  set ← placed at.Subject (expected_at 49 b)
  names ← all_of attribute_at set.0
  Ok (names, set.1)

-- the names of an extension, and the bytes after it (RFC 5280, section 4.2)
unfoldable pub extension_at : List ℕ → Result (List Named × List ℕ) Unread
extension_at b = do
  extension ← placed at.Extensions (expected_at 48 b)
  oid ← placed at.Extensions (expected_at 6 extension.0)
  critical ← placed at.Extensions (optional_at 1 oid.1)
  value ← placed at.Extensions (only_at 4 critical.1)
  if is_alt oid.0 then (placed at.AltNames (only_at 48 value) >>= λ alts. all_of alt_at alts >>= λ names. Ok (names, extension.1)) else Ok ([], extension.1)

-- the content of the list of extensions, or no bytes
unfoldable pub extensions_at : List ℕ → Result (List ℕ) Unread
extensions_at [] = Ok []
extensions_at (x ∷ b) = placed at.Extensions (only_at 163 (x ∷ b)) >>= λ e. placed at.Extensions (only_at 48 e)

-- the bytes after the validity (RFC 5280, section 4.1.2)
unfoldable pub front_at : List ℕ → Result (List ℕ) Unread
front_at b = do
  version ← placed at.Version (optional_at 160 b)
  serial ← placed at.Serial (expected_at 2 version.1)
  algorithm ← placed at.Algorithm (expected_at 48 serial.1)
  issuer ← placed at.Issuer (expected_at 48 algorithm.1)
  validity ← placed at.Validity (expected_at 48 issuer.1)
  Ok validity.1

-- the content of the list of extensions, from the key on (RFC 5280, section 4.1.2)
unfoldable pub behind_at : List ℕ → Result (List ℕ) Unread
behind_at b = do
  key ← placed at.Key (expected_at 48 b)
  issuer ← placed at.IssuerId (optional_at 129 key.1)
  subject ← placed at.SubjectId (optional_at 130 issuer.1)
  extensions_at subject.1

-- the contents of the subject and of the list of extensions (RFC 5280, section 4.1.2)
unfoldable pub parts_at : List ℕ → Result (List ℕ × List ℕ) Unread
parts_at b = do
  rest ← front_at b
  subject ← placed at.Subject (expected_at 48 rest)
  extensions ← behind_at subject.1
  Ok (subject.0, extensions)

-- the content of a certificate's TBSCertificate (RFC 5280, section 4.1)
unfoldable pub tbs_at : List ℕ → Result (List ℕ) Unread
tbs_at b = do
  fields ← placed at.Certificate (only_at 48 b)
  tbs ← placed at.Tbs (expected_at 48 fields)
  algorithm ← placed at.OuterAlgorithm (expected_at 48 tbs.1)
  signature ← placed at.Signature (only_at 3 algorithm.1)
  Ok tbs.0

-- the names in the content of a TBSCertificate
unfoldable pub tbs_names : List ℕ → Result (List Named) Unread
tbs_names b = do
  parts ← parts_at b
  common ← all_of rdn_at parts.0
  alts ← all_of extension_at parts.1
  Ok (common ++ alts)

-- the names of a certificate
unfoldable pub certificate_names : List ℕ → Result (List Named) Unread
certificate_names b = tbs_at b >>= λ tbs. tbs_names tbs

-- the names of a TBSCertificate
unfoldable pub bare_names : List ℕ → Result (List Named) Unread
bare_names b = placed at.Tbs (only_at 48 b) >>= λ tbs. tbs_names tbs
