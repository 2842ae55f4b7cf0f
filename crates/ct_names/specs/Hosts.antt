-- The host in a mail address and in a URI, and the text of an IP address.
use Rattle.std.specs.Prelude.{ℕ, Bool, false, List, [], ◌∷◌, length, Option, Some, None, ◌==◌, ◌&&◌, ◌||◌, if◌then◌else◌}
use Rattle.std.specs.Str.{str_eq_ignore_ascii_case}
use Rattle.std.specs.Net.Addr.{segments_of}
use Rattle.std.specs.Net.Text.{ipv4_text, ipv6_text}
use Rattle.ct_names.specs.Covers.{behind_first}

-- the later of two results, if there is one, and otherwise the earlier
abbrev pub latest : Option (List ℕ) → Option (List ℕ) → Option (List ℕ)
latest None early = early
latest (Some late) early = Some late

-- the bytes after the last byte with this value
abbrev pub behind_last : ℕ → List ℕ → Option (List ℕ)
behind_last byte [] = None
behind_last byte (x ∷ b) = latest (behind_last byte b) (if x == byte then Some b else None)

-- the bytes before the first byte with one of these values
abbrev pub before_any : ℕ → ℕ → ℕ → List ℕ → List ℕ
before_any one two three [] = []
before_any one two three (x ∷ b) = if (x == one) || (x == two) || (x == three) then [] else x ∷ before_any one two three b

-- the host in a mail address: the bytes after its last @ (RFC 5280, section 4.2.1.6)
abbrev pub mail_host : List ℕ → Option (List ℕ)
mail_host b = behind_last 64 b

-- the part after the user information, if there is any
abbrev pub without_user : List ℕ → Option (List ℕ) → List ℕ
without_user a None = a
without_user a (Some h) = h

-- the host in an authority: the bytes after the last @, and before the first colon (RFC 3986, section 3.2)
abbrev pub authority_host : List ℕ → List ℕ
authority_host a = before_any 58 58 58 (without_user a (behind_last 64 a))

-- the host after a URI's first colon, if two slashes follow it: the host of the authority, which ends before the next slash, question mark
-- or number sign (RFC 3986, section 3)
abbrev pub host_behind : Option (List ℕ) → Option (List ℕ)
host_behind None = None
host_behind (Some []) = None
host_behind (Some (x ∷ [])) = None
host_behind (Some (x ∷ y ∷ b)) = if (x == 47) && (y == 47) then Some (authority_host (before_any 47 63 35 b)) else None

-- the host in a URI that has an authority
abbrev pub uri_host : List ℕ → Option (List ℕ)
uri_host b = host_behind (behind_first 58 b)

-- the text of an IP address of four octets, and of one of sixteen (RFC 5952)
abbrev pub address_text : List ℕ → Option (List ℕ)
address_text b = if length b == 4 then Some (ipv4_text b) else (if length b == 16 then Some (ipv6_text (segments_of b)) else None)

-- whether there is a text, and it is this one except for the case of letters
abbrev pub is_text : Option (List ℕ) → List ℕ → Bool
is_text None w = false
is_text (Some t) w = str_eq_ignore_ascii_case t w
