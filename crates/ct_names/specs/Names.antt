-- The names of a certificate: its subject's common names and those of its subjectAltName (RFC 5280, sections 4.1.2.6 and 4.2.1.6).
use Rattle.std.specs.Prelude.{ℕ, List, [], ◌∷◌, map, Bool, false, ◌==◌, ◌&&◌, ◌||◌, nat_lt, if◌then◌else◌}
use Rattle.ct_names.specs.declared.name.Name.{Name}
use Rattle.ct_names.specs.declared.name.NameKind.{NameKind}
use Rattle.ct_names.specs.declared.name.NameKind.TheVariants.{Common, WideCommon, WidestCommon, Dns, Mail, Uri, Address}

-- a name: its kind, and its bytes
pub record Named : Type 0 where
  pub kind : NameKind
  pub bytes : List ℕ

-- the name that is a view of its bytes
abbrev pub standing : Name → Named
standing n = record { kind = n.kind; bytes = n.bytes.now }

-- .. of each, in order
abbrev pub named_all : List Name → List Named
named_all ns = map standing ns

-- whether these are the contents of the object identifier 2.5.4.3, of a common name (RFC 5280, appendix A.1)
abbrev pub is_common : List ℕ → Bool
is_common (a ∷ b ∷ c ∷ []) = (a == 85) && (b == 4) && (c == 3)
is_common _ = false

-- whether these are the contents of the object identifier 2.5.29.17, of subjectAltName (RFC 5280, section 4.2.1.6)
abbrev pub is_alt : List ℕ → Bool
is_alt (a ∷ b ∷ c ∷ []) = (a == 85) && (b == 29) && (c == 17)
is_alt _ = false

-- the one name of this kind
abbrev pub one : NameKind → List ℕ → List Named
one k c = record { kind = k; bytes = c } ∷ []

-- the names in a GeneralName: [1] rfc822Name, [2] dNSName, [6] uniformResourceIdentifier, [7] iPAddress (RFC 5280, section 4.2.1.6)
abbrev pub alt_of : ℕ → List ℕ → List Named
alt_of tag c =
    if tag == 129 then one Mail c else (if tag == 130 then one Dns c else (if tag == 134 then one Uri c else (if tag == 135 then one Address c else [])))

-- the names in an attribute of the subject: a common name in a BMPString (tag 30), a UniversalString (tag 28) or a string of bytes (RFC
-- 5280, section 4.1.2.6, and X.690, section 8.23)
abbrev pub common_of : List ℕ → ℕ → List ℕ → List Named
common_of oid tag c = if is_common oid then (if tag == 30 then one WideCommon c else (if tag == 28 then one WidestCommon c else one Common c)) else []

-- whether a tag is the constructed form of one of the four, which DER does not have and some readers accept (X.690, section 10.2)
abbrev pub is_bad_alt : ℕ → Bool
is_bad_alt tag = (tag == 161) || (tag == 162) || (tag == 166) || (tag == 167)

-- whether an attribute is a common name whose value is not one of ASN.1's own strings in the primitive form (X.690, section 10.2)
abbrev pub is_bad_common : List ℕ → ℕ → Bool
is_bad_common oid tag = is_common oid && nat_lt 31 tag
