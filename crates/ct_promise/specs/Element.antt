-- The elements of DER (X.690, 8.1 and 10.1): tag, length, content.
use Rattle.std.specs.Prelude.{◌≡◌, ◌<◌, ◌≤◌, ◌+◌, ◌*◌, ◌%◌, ◌++◌, [], ◌∷◌, ℕ, List, length}

-- The bytes are the length octets of n (X.690, 8.1.3 and 10.1). Below 128 they are n itself. Otherwise they are the number of bytes of n
-- plus 128, and n in that many bytes, the highest first, and no more bytes than it needs. There are at most four.
abbrev pub IsLength : List ℕ → ℕ → Type 0
IsLength [] n = ⊥
IsLength (a ∷ []) n = (a < 128) × (n ≡ a)
IsLength (h ∷ a ∷ []) n = (h ≡ 129) × (a < 256) × (128 ≤ n) × (n ≡ a)
IsLength (h ∷ a ∷ b ∷ []) n = (h ≡ 130) × (a < 256) × (b < 256) × (256 ≤ n) × (n ≡ a * 256 + b)
IsLength (h ∷ a ∷ b ∷ c ∷ []) n = (h ≡ 131) × (a < 256) × (b < 256) × (c < 256) × (65536 ≤ n) × (n ≡ a * 65536 + b * 256 + c)
IsLength (h ∷ a ∷ b ∷ c ∷ d ∷ []) n =
    (h ≡ 132) × (a < 256) × (b < 256) × (c < 256) × (d < 256) × (16777216 ≤ n) × (n ≡ a * 16777216 + b * 65536 + c * 256 + d)
IsLength (h ∷ a ∷ b ∷ c ∷ d ∷ e ∷ s) n = ⊥

-- x is the element with this tag, of one byte, and this content (X.690, 8.1.1)
pub record IsTlv (tag : ℕ) (content x : List ℕ) : Type 0 where
  pub size : List ℕ
  pub byte : tag < 256
  pub short : tag % 32 < 31
  pub definite : IsLength size (length content)
  pub text : x ≡ tag ∷ (size ++ content)
