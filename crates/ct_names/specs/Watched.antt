-- The watched names that a certificate matches, and the names by which it matches.
use Rattle.std.specs.Prelude.{◌≡◌, ◌++◌, ◌⊎◌, ℕ, Bool, true, false, List, [], ◌∷◌, Option, Some, None, ◌==◌, ◌&&◌, ◌||◌, not, if◌then◌else◌}
use Rattle.std.specs.Str.{str_eq_ignore_ascii_case}
use Rattle.ct_names.specs.declared.name.NameKind.{NameKind}
use Rattle.ct_names.specs.declared.name.NameKind.TheVariants.{Common, WideCommon, WidestCommon, Dns, Mail, Uri, Address}
use Rattle.ct_names.specs.declared.watched.FoundIn.{FoundIn}
use Rattle.ct_names.specs.declared.watched.FoundIn.TheVariants.{AltName, CommonName}
use Rattle.ct_names.specs.Names.{Named}
use Rattle.ct_names.specs.Covers.{Same, IsWildcardOver, Covers, covered, plain_of, narrow, wildcard_over}
use Rattle.ct_names.specs.Hosts.{mail_host, uri_host, address_text, is_text}

-- whether a name, without one dot at its end, is the watched name itself, or a wildcard over it
unfoldable pub held : List ℕ → List ℕ → Bool
held name w = str_eq_ignore_ascii_case (plain_of name) w || wildcard_over (plain_of name) w

-- whether a name matches a watched one. If the watched name begins with a dot, the name must cover the part after the dot; otherwise it
-- must be the watched name or a wildcard over it
unfoldable pub told_for : List ℕ → List ℕ → Bool
told_for name [] = held name []
told_for name (x ∷ w) = if x == 46 then covered name w else held name (x ∷ w)

-- the characters of a UniversalString, one byte each, with 255 for characters above 255 (X.690, section 8.23)
abbrev pub narrow_wide : List ℕ → List ℕ
narrow_wide [] = []
narrow_wide (a ∷ []) = []
narrow_wide (a ∷ b ∷ []) = []
narrow_wide (a ∷ b ∷ c ∷ []) = []
narrow_wide (a ∷ b ∷ c ∷ l ∷ r) = (if (a == 0) && ((b == 0) && (c == 0)) then l else 255) ∷ narrow_wide r

-- whether there is a host, and it matches a watched name
abbrev pub host_told : Option (List ℕ) → List ℕ → Bool
host_told None w = false
host_told (Some h) w = told_for h w

-- whether a name of this kind with these bytes matches a watched one: a common name or a dNSName by its characters, a mail address or a URI
-- by its host, and an IP address by its text
unfoldable pub kind_told : NameKind → List ℕ → List ℕ → Bool
kind_told Common b w = told_for b w
kind_told WideCommon b w = told_for (narrow b) w
kind_told WidestCommon b w = told_for (narrow_wide b) w
kind_told Dns b w = told_for b w
kind_told Mail b w = host_told (mail_host b) w
kind_told Uri b w = host_told (uri_host b) w
kind_told Address b w = is_text (address_text b) w

-- whether a kind is one of subjectAltName's
abbrev pub is_alt_kind : NameKind → Bool
is_alt_kind Common = false
is_alt_kind WideCommon = false
is_alt_kind WidestCommon = false
is_alt_kind Dns = true
is_alt_kind Mail = true
is_alt_kind Uri = true
is_alt_kind Address = true

-- whether a kind is one of subjectAltName's, if `true` is given, and otherwise whether it is a kind of common name
abbrev pub is_sought : Bool → NameKind → Bool
is_sought true kind = is_alt_kind kind
is_sought false kind = not (is_alt_kind kind)

-- whether some name matches the watched one: among the names of subjectAltName, if alt is true, and otherwise among the common names
unfoldable pub some_told : Bool → List Named → List ℕ → Bool
some_told alt [] w = false
some_told alt (n ∷ ns) w = (is_sought alt n.kind && kind_told n.kind n.bytes w) || some_told alt ns w

-- the kind of names in which a watched one, without one dot at its end, is found: the names of subjectAltName are tried before the common
-- names
unfoldable pub found_in : List Named → List ℕ → Option FoundIn
found_in ns w = if some_told true ns (plain_of w) then Some AltName else (if some_told false ns (plain_of w) then Some CommonName else None)

-- ---- the same in terms of names

-- the name, without one dot at its end, is the watched name itself, or a wildcard over it
abbrev pub HoldsFor : List ℕ → List ℕ → Type 0
HoldsFor name w = Same (plain_of name) w ⊎ IsWildcardOver (plain_of name) w

-- The name matches the watched one. A watched name that begins with a dot also includes all names below it.
abbrev pub IsToldFor : List ℕ → List ℕ → Type 0
IsToldFor name [] = HoldsFor name []
IsToldFor name (x ∷ w) = ((x ≡ 46) × Covers name w) ⊎ ((x ≡ 46 → ⊥) × HoldsFor name (x ∷ w))

-- there is a host, and it matches the watched name
abbrev pub HostToldFor : Option (List ℕ) → List ℕ → Type 0
HostToldFor None w = ⊥
HostToldFor (Some h) w = IsToldFor h w

-- there is a text, and it is the watched name except for the case of letters
abbrev pub IsGivenText : Option (List ℕ) → List ℕ → Type 0
IsGivenText None w = ⊥
IsGivenText (Some t) w = Same t w

-- a name of this kind, with these bytes, matches the watched one
abbrev pub KindToldFor : NameKind → List ℕ → List ℕ → Type 0
KindToldFor Common b w = IsToldFor b w
KindToldFor WideCommon b w = IsToldFor (narrow b) w
KindToldFor WidestCommon b w = IsToldFor (narrow_wide b) w
KindToldFor Dns b w = IsToldFor b w
KindToldFor Mail b w = HostToldFor (mail_host b) w
KindToldFor Uri b w = HostToldFor (uri_host b) w
KindToldFor Address b w = IsGivenText (address_text b) w

-- one of the names matches the watched one: one of subjectAltName's, if alt is true, and otherwise one of the common names
abbrev pub SomeToldFor : Bool → List Named → List ℕ → Type 0
SomeToldFor alt ns w =
    (front behind : List Named) × (n : Named) × (ns ≡ front ++ (n ∷ behind)) × (is_sought alt n.kind ≡ true) × KindToldFor n.kind n.bytes w

-- The kind of names that match the watched one. AltName: a name of subjectAltName. CommonName: a common name, and no name of
-- subjectAltName. None: no name.
abbrev pub IsFound : Option FoundIn → List Named → List ℕ → Type 0
IsFound (Some AltName) ns w = SomeToldFor true ns w
IsFound (Some CommonName) ns w = SomeToldFor false ns w × (SomeToldFor true ns w → ⊥)
IsFound None ns w = (SomeToldFor false ns w → ⊥) × (SomeToldFor true ns w → ⊥)
