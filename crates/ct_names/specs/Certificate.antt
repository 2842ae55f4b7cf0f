-- The grammar of certificates as far as their names need it (RFC 5280, 4.1 and 4.2), in elements of DER (X.690).
use Rattle.std.specs.Prelude.{◌≡◌, ◌++◌, ◌⊎◌, ℕ, List, [], ◌∷◌, Bool, true, false}
use Rattle.ct_promise.specs.Element.{IsTlv}
use Rattle.ct_names.specs.Names.{Named, is_alt, is_bad_alt, is_bad_common, alt_of, common_of}

-- ---- one item after the other, each with its names

-- the names of items, in order
abbrev pub names_in_all : List (List Named × List ℕ) → List Named
names_in_all [] = []
names_in_all (p ∷ L) = p.0 ++ names_in_all L

-- the texts of items, one after the other
abbrev pub text_of_all : List (List Named × List ℕ) → List ℕ
text_of_all [] = []
text_of_all (p ∷ L) = p.1 ++ text_of_all L

-- each item has its names and its text
abbrev pub Each : (List Named → List ℕ → Type 0) → List (List Named × List ℕ) → Type 0
Each Is [] = Unit {0}
Each Is (p ∷ L) = Is p.0 p.1 × Each Is L

-- b is items one after the other, to its end, and ns are their names
abbrev pub Many : (List Named → List ℕ → Type 0) → List Named → List ℕ → Type 0
Many Is ns b = (L : List (List Named × List ℕ)) × Each Is L × (ns ≡ names_in_all L) × (b ≡ text_of_all L)

-- an element with this tag, or nothing
abbrev pub IsOptional : ℕ → List ℕ → Type 0
IsOptional tag x = (x ≡ []) ⊎ ((c : List ℕ) × IsTlv tag c x)

-- an element with this tag, whatever its content
abbrev pub IsField : ℕ → List ℕ → Type 0
IsField tag x = (c : List ℕ) × IsTlv tag c x

-- x is a GeneralName, and ns are its names: rfc822Name, dNSName, uniformResourceIdentifier and iPAddress have one each, and the other kinds
-- have none (RFC 5280, section 4.2.1.6)
abbrev pub IsAltName : List Named → List ℕ → Type 0
IsAltName ns x = (tag : ℕ) × (c : List ℕ) × IsTlv tag c x × (is_bad_alt tag ≡ false) × (ns ≡ alt_of tag c)

-- x is an AttributeTypeAndValue, an object identifier and any value, and ns are its common names (RFC 5280, section 4.1.2.4)
abbrev pub IsAttribute : List Named → List ℕ → Type 0
IsAttribute ns x =
    (tag : ℕ) × (oid value o v : List ℕ) × IsTlv 6 oid o × IsTlv tag value v × IsTlv 48 (o ++ v) x × (is_bad_common oid tag ≡ false)
    × (ns ≡ common_of oid tag value)

-- x is a RelativeDistinguishedName, a SET of attributes, and ns are their common names (RFC 5280, section 4.1.2.4)
abbrev pub IsRdn : List Named → List ℕ → Type 0
IsRdn ns x = (c : List ℕ) × Many IsAttribute ns c × IsTlv 49 c x

-- the names in the value of an extension: those of a subjectAltName, and none of another
abbrev pub IsValue : Bool → List Named → List ℕ → Type 0
IsValue true ns value = (c : List ℕ) × IsTlv 48 c value × Many IsAltName ns c
IsValue false ns value = ns ≡ []

-- x is an Extension, consisting of an object identifier, an optional BOOLEAN and an OCTET STRING, and ns are its names (RFC 5280, section
-- 4.2)
abbrev pub IsExtension : List Named → List ℕ → Type 0
IsExtension ns x =
    (oid value o critical v : List ℕ) × IsTlv 6 oid o × IsOptional 1 critical × IsTlv 4 value v × IsTlv 48 (o ++ (critical ++ v)) x
    × IsValue (is_alt oid) ns value

-- x is the field of the extensions, or nothing, and ns are their names (RFC 5280, section 4.1.2.9)
abbrev pub AreExtensions : List Named → List ℕ → Type 0
AreExtensions ns x = ((x ≡ []) × (ns ≡ [])) ⊎ ((list c : List ℕ) × Many IsExtension ns list × IsTlv 48 list c × IsTlv 163 c x)

-- The content b of a TBSCertificate: an optional version, serial number, algorithm, issuer, validity, subject, key, the optional
-- identifiers of issuer and subject, and the extensions. The names are the common names of the subject, followed by those of the extensions
-- (RFC 5280, section 4.1.2).
pub record IsTbs (ns : List Named) (b : List ℕ) : Type 0 where
  pub common : List Named
  pub alts : List Named
  pub version : List ℕ
  pub serial : List ℕ
  pub algorithm : List ℕ
  pub issuer : List ℕ
  pub validity : List ℕ
  pub subject : List ℕ
  pub rdns : List ℕ
  pub key : List ℕ
  pub issuer_id : List ℕ
  pub subject_id : List ℕ
  pub extensions : List ℕ
  pub version_is : IsOptional 160 version
  pub serial_is : IsField 2 serial
  pub algorithm_is : IsField 48 algorithm
  pub issuer_is : IsField 48 issuer
  pub validity_is : IsField 48 validity
  pub subject_is : IsTlv 48 rdns subject
  pub rdns_are : Many IsRdn common rdns
  pub key_is : IsField 48 key
  pub issuer_id_is : IsOptional 129 issuer_id
  pub subject_id_is : IsOptional 130 subject_id
  pub extensions_are : AreExtensions alts extensions
  pub names : ns ≡ common ++ alts
  pub text :
      b ≡ version ++ (serial ++ (algorithm ++ (issuer ++ (validity ++ (subject ++ (key ++ (issuer_id ++ (subject_id ++ extensions))))))))

-- ns are the names of the certificate b (RFC 5280, section 4.1)
abbrev pub NamesOf : List Named → List ℕ → Type 0
NamesOf ns b =
    (content tbs algorithm signature : List ℕ) × IsTbs ns content × IsTlv 48 content tbs × IsField 48 algorithm × IsField 3 signature
    × IsTlv 48 (tbs ++ (algorithm ++ signature)) b

-- ns are the names of the TBSCertificate b, as the entry of a precertificate has it (RFC 6962, section 3.2)
abbrev pub BareNamesOf : List Named → List ℕ → Type 0
BareNamesOf ns b = (content : List ℕ) × IsTbs ns content × IsTlv 48 content b
