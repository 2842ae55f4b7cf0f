-- Laws of elements.
use Rattle.std.specs.Prelude.{◌≡◌, ◌<◌, ◌%◌, ◌++◌, ℕ, List, length, Ok, Err}
use Rattle.std.specs.Prelude.{get_or}
use Rattle.ct_promise.specs.declared.der_fault.DerFault.TheVariants.{Truncated}
use Rattle.ct_promise.specs.Element.{IsTlv}
use Rattle.ct_promise.specs.DerReading.{element_at}
use Rattle.ct_promise.specs.DerWriting.{element_text}

-- each number is a byte, or is past the end
abbrev pub IsBytes : List ℕ → Type 0
IsBytes bytes = (i : ℕ) → get_or bytes i 0 < 256

-- An element that is read is a prefix of the bytes.
abbrev pub ReadElementsAreThere : Type 0
ReadElementsAreThere =
    (b c r : List ℕ) (tag : ℕ) → IsBytes b → element_at b ≡ Ok (tag, c, r) → (x : List ℕ) × IsTlv tag c x × (b ≡ x ++ r)

-- An element is read, whatever follows it.
abbrev pub ElementsAreRead : Type 0
ElementsAreRead = (tag : ℕ) (c x r : List ℕ) → IsTlv tag c x → element_at (x ++ r) ≡ Ok (tag, c, r)

-- No bytes begin with two elements.
abbrev pub ElementsStandApart : Type 0
ElementsStandApart =
    (t u : ℕ) (c d x y r s : List ℕ) → IsTlv t c x → IsTlv u d y → x ++ r ≡ y ++ s → (t ≡ u) × (c ≡ d) × (r ≡ s)

-- Each proper prefix of an element is refused as truncated.
abbrev pub BeginningsAreTruncated : Type 0
BeginningsAreTruncated = (t : ℕ) (c x y s : List ℕ) → IsTlv t c x → 0 < length s → x ≡ y ++ s → element_at y ≡ Err Truncated

-- An element has exactly one text.
abbrev pub ElementsHaveOneText : Type 0
ElementsHaveOneText = (t : ℕ) (c x y : List ℕ) → IsTlv t c x → IsTlv t c y → x ≡ y

-- The text of an element with a tag of one byte and fewer than 2^32 bytes of content is a text of the element ..
abbrev pub WrittenElementsAreThere : Type 0
WrittenElementsAreThere = (t : ℕ) (c : List ℕ) → t < 256 → t % 32 < 31 → length c < 4294967296 → IsTlv t c (element_text t c)

-- .. and it is the only one.
abbrev pub ElementsAreWritten : Type 0
ElementsAreWritten = (t : ℕ) (c x : List ℕ) → IsTlv t c x → x ≡ element_text t c
