-- Certificates and TBSCertificates as far as the cut of an extension needs them (RFC 5280, 4.1 and 4.2), in elements of DER (X.690).
use Rattle.std.specs.Prelude.{◌≡◌, ◌<◌, ◌++◌, ◌⊎◌, ℕ, List, [], ◌∷◌, length, Bool, true, false}
use Rattle.std.specs.List.{AllByRecursion}
use Rattle.ct_promise.specs.Element.{IsTlv}
use Rattle.ct_promise.specs.declared.field.Place.{Place}
use Rattle.ct_promise.specs.declared.field.Place.TheVariants as at

-- ---- fields

-- a field: whether it is optional, the tag of its element, and its name in a fault
pub record Field : Type 0 where
  pub optional : Bool
  pub tag : ℕ
  pub place : Place

-- a required field
abbrev pub must : ℕ → Place → Field
must tag place = record { optional = false; tag = tag; place = place }

-- an optional field
abbrev pub may : ℕ → Place → Field
may tag place = record { optional = true; tag = tag; place = place }

-- x is the element of a field, whatever its content; or nothing, if the field is optional
abbrev pub IsFieldOf : Field → List ℕ → Type 0
IsFieldOf f x = ((f.optional ≡ true) × (x ≡ [])) ⊎ ((c : List ℕ) × IsTlv f.tag c x)

-- b is these fields, one after the other
abbrev pub AreFields : List Field → List ℕ → Type 0
AreFields [] b = b ≡ []
AreFields (f ∷ fs) b = (x r : List ℕ) × IsFieldOf f x × AreFields fs r × (b ≡ x ++ r)

-- the fields of a TBSCertificate before the key (RFC 5280, 4.1.2)
abbrev pub before_key : List Field
before_key =
    may 160 at.Version ∷ must 2 at.Serial ∷ must 48 at.Algorithm ∷ must 48 at.Issuer ∷ must 48 at.Validity ∷ must 48 at.Subject ∷ []

-- the fields from the key on, except the extensions
abbrev pub from_key : List Field
from_key = must 48 at.Key ∷ may 129 at.IssuerId ∷ may 130 at.SubjectId ∷ []

-- all fields except the extensions
abbrev pub tbs_fields : List Field
tbs_fields =
    may 160 at.Version ∷ must 2 at.Serial ∷ must 48 at.Algorithm ∷ must 48 at.Issuer ∷ must 48 at.Validity ∷ must 48 at.Subject ∷ from_key

-- ---- extensions

-- x is the Extension with this identifier and this value: an object identifier, an optional BOOLEAN and an OCTET STRING (RFC 5280, 4.2)
pub record IsExtensionWith (identifier value x : List ℕ) : Type 0 where
  pub name : List ℕ
  pub critical : List ℕ
  pub content : List ℕ
  pub name_is : IsTlv 6 identifier name
  pub critical_is : IsFieldOf (may 1 at.Extensions) critical
  pub content_is : IsTlv 4 value content
  pub text : IsTlv 48 (name ++ (critical ++ content)) x

-- x is an Extension with another identifier
abbrev pub IsOther : List ℕ → List ℕ → Type 0
IsOther identifier x = (other value : List ℕ) × (other ≡ identifier → ⊥) × IsExtensionWith other value x

-- texts, one after the other
abbrev pub all_joined : List (List ℕ) → List ℕ
all_joined [] = []
all_joined (x ∷ L) = x ++ all_joined L

-- b is Extensions with other identifiers, one after the other
abbrev pub AreOthers : List ℕ → List ℕ → Type 0
AreOthers identifier b = (L : List (List ℕ)) × AllByRecursion (IsOther identifier) L × (b ≡ all_joined L)

-- x is the field of these extensions, or nothing if there are none (RFC 5280, 4.1.2.9)
abbrev pub IsExtensionsField : List ℕ → List ℕ → Type 0
IsExtensionsField extensions x =
    ((extensions ≡ []) × (x ≡ [])) ⊎ ((list : List ℕ) × (0 < length extensions) × IsTlv 48 extensions list × IsTlv 163 list x)

-- ---- the cut

-- The parts of a TBSCertificate: its fields before the extensions, the extensions before the one that is cut out, that extension, its
-- value, and the extensions after it.
pub record Parts : Type 0 where
  pub head : List ℕ
  pub front : List ℕ
  pub cut : List ℕ
  pub value : List ℕ
  pub behind : List ℕ

-- b is the TBSCertificate with these parts, and one extension has this identifier: the one that is cut out
pub record IsParted (identifier : List ℕ) (p : Parts) (b : List ℕ) : Type 0 where
  pub list : List ℕ
  pub field : List ℕ
  pub fields : AreFields tbs_fields p.head
  pub front : AreOthers identifier p.front
  pub cut : IsExtensionWith identifier p.value p.cut
  pub behind : AreOthers identifier p.behind
  pub list_is : IsTlv 48 (p.front ++ (p.cut ++ p.behind)) list
  pub field_is : IsTlv 163 list field
  pub text : IsTlv 48 (p.head ++ field) b

-- c is the TBSCertificate with these parts except the one that is cut out (RFC 6962, 3.2)
abbrev pub IsWithout : Parts → List ℕ → Type 0
IsWithout p c = (field : List ℕ) × IsExtensionsField (p.front ++ p.behind) field × IsTlv 48 (p.head ++ field) c

-- b is a TBSCertificate in which one extension has this identifier, and c is the same without that extension
abbrev pub IsCutOut : List ℕ → List ℕ → List ℕ → Type 0
IsCutOut identifier b c = (p : Parts) × IsParted identifier p b × IsWithout p c

-- ---- certificates

-- b is a certificate, and tbs its TBSCertificate (RFC 5280, 4.1)
pub record IsTbsOf (tbs b : List ℕ) : Type 0 where
  pub content : List ℕ
  pub algorithm : List ℕ
  pub algorithm_content : List ℕ
  pub signature : List ℕ
  pub signature_content : List ℕ
  pub tbs_is : IsTlv 48 content tbs
  pub algorithm_is : IsTlv 48 algorithm_content algorithm
  pub signature_is : IsTlv 3 signature_content signature
  pub text : IsTlv 48 (tbs ++ (algorithm ++ signature)) b

-- b is a TBSCertificate, up to its key, which is this (SubjectPublicKeyInfo, RFC 5280, 4.1.2.7)
pub record IsKeyOf (key b : List ℕ) : Type 0 where
  pub before : List ℕ
  pub content : List ℕ
  pub behind : List ℕ
  pub before_are : AreFields before_key before
  pub key_is : IsTlv 48 content key
  pub text : IsTlv 48 (before ++ (key ++ behind)) b
