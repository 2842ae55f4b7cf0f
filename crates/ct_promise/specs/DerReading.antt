-- Elements of DER read from left to right, with the first fault that is met (X.690, 8.1 and 10.1).
use Rattle.std.specs.Prelude.{◌≡◌, ◌+◌, ◌*◌, ◌%◌, ℕ, List, [], ◌∷◌, length, take, drop, Option, Some, None, Result, Ok, Err, nat_lt, ◌==◌, if◌then◌else◌}
use Rattle.ct_promise.specs.declared.der_fault.DerFault.{DerFault}
use Rattle.ct_promise.specs.declared.der_fault.DerFault.TheVariants.{Truncated, LongTag, IndefiniteLength, LongLength, PaddedLength, OtherTag, Trailing}

infixl 10 ◌>>=◌
-- one step after another: a fault of the first is the fault of both
abbrev pub ◌>>=◌ : {A B F : Type 0} → Result A F → (A → Result B F) → Result B F
(Ok x) >>= f = f x
(Err e) >>= f = Err e

-- the result of a function, seen through view, is the result of reading
abbrev pub Gives : {X Y F : Type 0} → (X → Y) → Result X F → Result Y F → Type 0
Gives view (Ok x) read = read ≡ Ok (view x)
Gives view (Err e) read = read ≡ Err e

-- a length, unless fewer bytes would do (X.690, 10.1), and the bytes after it; `least` is the least length that needs that many bytes
abbrev pub minimal : ℕ → ℕ → List ℕ → Result (ℕ × List ℕ) DerFault
minimal least n r = if nat_lt n least then Err PaddedLength else Ok (n, r)

-- a length in one byte after the first, and the bytes after it (X.690, 8.1.3.5)
unfoldable pub long_1 : List ℕ → Result (ℕ × List ℕ) DerFault
long_1 [] = Err Truncated
long_1 (a ∷ r) = minimal 128 a r

-- a length in two bytes after the first, and the bytes after it (X.690, 8.1.3.5)
unfoldable pub long_2 : List ℕ → Result (ℕ × List ℕ) DerFault
long_2 [] = Err Truncated
long_2 (a ∷ []) = Err Truncated
long_2 (a ∷ b ∷ r) = minimal 256 (a * 256 + b) r

-- a length in three bytes after the first, and the bytes after it (X.690, 8.1.3.5)
unfoldable pub long_3 : List ℕ → Result (ℕ × List ℕ) DerFault
long_3 [] = Err Truncated
long_3 (a ∷ []) = Err Truncated
long_3 (a ∷ b ∷ []) = Err Truncated
long_3 (a ∷ b ∷ c ∷ r) = minimal 65536 (a * 65536 + b * 256 + c) r

-- a length in four bytes after the first, and the bytes after it (X.690, 8.1.3.5)
unfoldable pub long_4 : List ℕ → Result (ℕ × List ℕ) DerFault
long_4 [] = Err Truncated
long_4 (a ∷ []) = Err Truncated
long_4 (a ∷ b ∷ []) = Err Truncated
long_4 (a ∷ b ∷ c ∷ []) = Err Truncated
long_4 (a ∷ b ∷ c ∷ d ∷ r) = minimal 16777216 (a * 16777216 + b * 65536 + c * 256 + d) r

-- the length in front, and the bytes after it (X.690, 8.1.3)
unfoldable pub length_at : List ℕ → Result (ℕ × List ℕ) DerFault
length_at [] = Err Truncated
length_at (h ∷ r) =
    if nat_lt h 128 then Ok (h, r) else (if h == 128 then Err IndefiniteLength else (if h == 129 then long_1 r else (if h == 130 then long_2 r
    else (if h == 131 then long_3 r else (if h == 132 then long_4 r else Err LongLength)))))

-- the tag, the first n bytes, and the bytes after them
abbrev pub cut_at : ℕ → ℕ → List ℕ → Result (ℕ × List ℕ × List ℕ) DerFault
cut_at tag n r = if nat_lt (length r) n then Err Truncated else Ok (tag, take n r, drop n r)

-- the element in front: its tag, its content, and the bytes after it (X.690, 8.1.1)
unfoldable pub element_at : List ℕ → Result (ℕ × List ℕ × List ℕ) DerFault
element_at [] = Err Truncated
element_at (tag ∷ r) = if tag % 32 == 31 then Err LongTag else (length_at r >>= λ n. cut_at tag n.0 n.1)

-- the content of an element with this tag, and the bytes after it
unfoldable pub expected_at : ℕ → List ℕ → Result (List ℕ × List ℕ) DerFault
expected_at tag b = element_at b >>= λ e. if e.0 == tag then Ok (e.1, e.2) else Err OtherTag

-- the content of the element with this tag that the bytes consist of
unfoldable pub only_at : ℕ → List ℕ → Result (List ℕ) DerFault
only_at tag b = expected_at tag b >>= λ e. if length e.1 == 0 then Ok e.0 else Err Trailing

-- the content of the element in front, if it has this tag, and the bytes after it
unfoldable pub optional_at : ℕ → List ℕ → Result (Option (List ℕ) × List ℕ) DerFault
optional_at tag [] = Ok (None, [])
optional_at tag (x ∷ b) = if x == tag then (expected_at tag (x ∷ b) >>= λ e. Ok (Some e.0, e.1)) else Ok (None, x ∷ b)
