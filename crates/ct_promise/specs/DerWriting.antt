-- Elements of DER written (X.690, 8.1 and 10.1).
use Rattle.std.specs.Prelude.{◌/◌, ◌%◌, ◌++◌, ◌∷◌, [], ℕ, List, length, nat_lt, if◌then◌else◌}

-- the length octets of n, below 2^32, in the fewest bytes (X.690, 8.1.3 and 10.1)
unfoldable pub length_octets : ℕ → List ℕ
length_octets n =
    if nat_lt n 128 then n ∷ []
    else (if nat_lt n 256 then 129 ∷ n ∷ []
    else (if nat_lt n 65536 then 130 ∷ (n / 256) ∷ (n % 256) ∷ []
    else (if nat_lt n 16777216 then 131 ∷ (n / 65536) ∷ (n / 256 % 256) ∷ (n % 256) ∷ []
    else 132 ∷ (n / 16777216) ∷ (n / 65536 % 256) ∷ (n / 256 % 256) ∷ (n % 256) ∷ [])))

-- the element with this tag and this content (X.690, 8.1.1)
abbrev pub element_text : ℕ → List ℕ → List ℕ
element_text tag content = tag ∷ (length_octets (length content) ++ content)
