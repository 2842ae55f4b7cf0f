-- An element has exactly one text, and that text is written.
use Rattle.std.proofs.Common.{◌≡◌, ◌<◌, ◌≤◌, ◌+◌, ◌/◌, ◌%◌, ℕ, suc, Bool, true, false, cond, ltb, List, [], ◌∷◌, ◌++◌, length, refl, sym, ap, ◌∙◌, arith}
use Rattle.std.proofs.lemmas.Bool.{ltb-false, ltb-true, le-ltb, lt-ltb}
use Rattle.std.proofs.lemmas.List.{length-append}
use Rattle.ct_promise.specs.Element.{IsLength, IsTlv}
use Rattle.ct_promise.specs.DerWriting.{length_octets, element_text}
use Rattle.ct_promise.specs.DerLaws.{ElementsHaveOneText, WrittenElementsAreThere, ElementsAreWritten}

one_length : (l : List ℕ) (n : ℕ) → IsLength l n → l ≡ length_octets n
unfolding length_octets
one_length [] n h = absurd h
one_length (a ∷ []) n h = rw (lt-ltb n 128 (omega (arith, h.0, h.1))) (ap (λ (k : ℕ). k ∷ []) (sym h.1))
one_length (x ∷ a ∷ []) n h =
    let low = le-ltb n 128 h.2 in
    let high = lt-ltb n 256 (omega (arith, h.1, h.3)) in
    rw (low, high) (ap (λ (k : ℕ). k ∷ a ∷ []) h.0 ∙ ap (λ (k : ℕ). 129 ∷ k ∷ []) (sym h.3))
one_length (x ∷ a ∷ b ∷ []) n h =
    let small = le-ltb n 128 (omega (arith, h.3)) in
    let low = le-ltb n 256 h.3 in
    let high = lt-ltb n 65536 (omega (arith, h.1, h.2, h.4)) in
    let first : a ≡ n / 256 = omega (arith, h.1, h.2, h.4) in
    let last : b ≡ n % 256 = omega (arith, h.1, h.2, h.4) in
    rw (small, low, high) (ap (λ (k : ℕ). k ∷ a ∷ b ∷ []) h.0 ∙ ap (λ (k : ℕ). 130 ∷ k ∷ b ∷ []) first ∙ ap (λ (k : ℕ). 130 ∷ (n / 256) ∷ k ∷ []) last)
one_length (x ∷ a ∷ b ∷ c ∷ []) n h =
    let small = le-ltb n 128 (omega (arith, h.4)) in
    let low = le-ltb n 256 (omega (arith, h.4)) in
    let middle = le-ltb n 65536 h.4 in
    let high = lt-ltb n 16777216 (omega (arith, h.1, h.2, h.3, h.5)) in
    let first : a ≡ n / 65536 = omega (arith, h.1, h.2, h.3, h.5) in
    let second : b ≡ n / 256 % 256 = omega (arith, h.1, h.2, h.3, h.5) in
    let last : c ≡ n % 256 = omega (arith, h.1, h.2, h.3, h.5) in
    rw (small, low, middle, high)
    (ap (λ (k : ℕ). k ∷ a ∷ b ∷ c ∷ []) h.0 ∙ ap (λ (k : ℕ). 131 ∷ k ∷ b ∷ c ∷ []) first ∙ ap (λ (k : ℕ). 131 ∷ (n / 65536) ∷ k ∷ c ∷ []) second
    ∙ ap (λ (k : ℕ). 131 ∷ (n / 65536) ∷ (n / 256 % 256) ∷ k ∷ []) last)
one_length (x ∷ a ∷ b ∷ c ∷ d ∷ []) n h =
    let small = le-ltb n 128 (omega (arith, h.5)) in
    let low = le-ltb n 256 (omega (arith, h.5)) in
    let middle = le-ltb n 65536 (omega (arith, h.5)) in
    let high = le-ltb n 16777216 h.5 in
    let first : a ≡ n / 16777216 = omega (arith, h.1, h.2, h.3, h.4, h.6) in
    let second : b ≡ n / 65536 % 256 = omega (arith, h.1, h.2, h.3, h.4, h.6) in
    let third : c ≡ n / 256 % 256 = omega (arith, h.1, h.2, h.3, h.4, h.6) in
    let last : d ≡ n % 256 = omega (arith, h.1, h.2, h.3, h.4, h.6) in
    rw (small, low, middle, high)
    (ap (λ (k : ℕ). k ∷ a ∷ b ∷ c ∷ d ∷ []) h.0 ∙ ap (λ (k : ℕ). 132 ∷ k ∷ b ∷ c ∷ d ∷ []) first
    ∙ ap (λ (k : ℕ). 132 ∷ (n / 16777216) ∷ k ∷ c ∷ d ∷ []) second ∙ ap (λ (k : ℕ). 132 ∷ (n / 16777216) ∷ (n / 65536 % 256) ∷ k ∷ d ∷ []) third
    ∙ ap (λ (k : ℕ). 132 ∷ (n / 16777216) ∷ (n / 65536 % 256) ∷ (n / 256 % 256) ∷ k ∷ []) last)
one_length (x ∷ a ∷ b ∷ c ∷ d ∷ e ∷ s) n h = absurd h

pub elements_are_written : ElementsAreWritten
elements_are_written t c x is = is.text ∙ ap (λ (l : List ℕ). t ∷ (l ++ c)) (one_length is.size (length c) is.definite)

pub elements_have_one_text : ElementsHaveOneText
elements_have_one_text t c x y p q = elements_are_written t c x p ∙ sym (elements_are_written t c y q)

-- the length octets, by their number
octets_5 : (n : ℕ) → n < 4294967296 → (small low middle high : Bool) → ltb n 128 ≡ small → ltb n 256 ≡ low → ltb n 65536 ≡ middle
    → ltb n 16777216 ≡ high
    → IsLength (cond small (n ∷ []) (cond low (129 ∷ n ∷ []) (cond middle (130 ∷ (n / 256) ∷ (n % 256) ∷ [])
    (cond high (131 ∷ (n / 65536) ∷ (n / 256 % 256) ∷ (n % 256) ∷ [])
    (132 ∷ (n / 16777216) ∷ (n / 65536 % 256) ∷ (n / 256 % 256) ∷ (n % 256) ∷ []))))) n
octets_5 n fits true low middle high a b c d = (ltb-true n 128 a, refl)
octets_5 n fits false true middle high a b c d = (refl, ltb-true n 256 b, ltb-false n 128 a, refl)
octets_5 n fits false false true high a b c d =
    let top = ltb-true n 65536 c in
    (refl, omega (arith, top), omega arith, ltb-false n 256 b, omega arith)
octets_5 n fits false false false true a b c d =
    let top = ltb-true n 16777216 d in
    (refl, omega (arith, top), omega arith, omega arith, ltb-false n 65536 c, omega arith)
octets_5 n fits false false false false a b c d =
    (refl, omega (arith, fits), omega arith, omega arith, omega arith, ltb-false n 16777216 d, omega arith)

are_octets : (n : ℕ) → n < 4294967296 → IsLength (length_octets n) n
unfolding length_octets
are_octets n fits = octets_5 n fits (ltb n 128) (ltb n 256) (ltb n 65536) (ltb n 16777216) refl refl refl refl

pub written_elements_are_there : WrittenElementsAreThere
written_elements_are_there t c byte short fits =
    record { size = length_octets (length c); byte = byte; short = short; definite = are_octets (length c) fits; text = refl }

-- a smaller number does not have more length octets
octets_grow : (l k : List ℕ) (n m : ℕ) → IsLength l n → IsLength k m → n ≤ m → length l ≤ length k
octets_grow [] k n m h g low = absurd h
octets_grow (a ∷ l) [] n m h g low = absurd g
octets_grow (a ∷ []) (p ∷ k) n m h g low = omega arith
octets_grow (x ∷ a ∷ []) (p ∷ []) n m h g low = absurd (omega (arith, h.2, g.0, g.1, low))
octets_grow (x ∷ a ∷ []) (p ∷ q ∷ k) n m h g low = omega arith
octets_grow (x ∷ a ∷ b ∷ []) (p ∷ []) n m h g low = absurd (omega (arith, h.3, g.0, g.1, low))
octets_grow (x ∷ a ∷ b ∷ []) (p ∷ q ∷ []) n m h g low = absurd (omega (arith, h.3, g.1, g.3, low))
octets_grow (x ∷ a ∷ b ∷ []) (p ∷ q ∷ r ∷ k) n m h g low = omega arith
octets_grow (x ∷ a ∷ b ∷ c ∷ []) (p ∷ []) n m h g low = absurd (omega (arith, h.4, g.0, g.1, low))
octets_grow (x ∷ a ∷ b ∷ c ∷ []) (p ∷ q ∷ []) n m h g low = absurd (omega (arith, h.4, g.1, g.3, low))
octets_grow (x ∷ a ∷ b ∷ c ∷ []) (p ∷ q ∷ r ∷ []) n m h g low = absurd (omega (arith, h.4, g.1, g.2, g.4, low))
octets_grow (x ∷ a ∷ b ∷ c ∷ []) (p ∷ q ∷ r ∷ s ∷ k) n m h g low = omega arith
octets_grow (x ∷ a ∷ b ∷ c ∷ d ∷ []) (p ∷ []) n m h g low = absurd (omega (arith, h.5, g.0, g.1, low))
octets_grow (x ∷ a ∷ b ∷ c ∷ d ∷ []) (p ∷ q ∷ []) n m h g low = absurd (omega (arith, h.5, g.1, g.3, low))
octets_grow (x ∷ a ∷ b ∷ c ∷ d ∷ []) (p ∷ q ∷ r ∷ []) n m h g low = absurd (omega (arith, h.5, g.1, g.2, g.4, low))
octets_grow (x ∷ a ∷ b ∷ c ∷ d ∷ []) (p ∷ q ∷ r ∷ s ∷ []) n m h g low = absurd (omega (arith, h.5, g.1, g.2, g.3, g.5, low))
octets_grow (x ∷ a ∷ b ∷ c ∷ d ∷ []) (p ∷ q ∷ r ∷ s ∷ t ∷ k) n m h g low = omega arith
octets_grow (x ∷ a ∷ b ∷ c ∷ d ∷ e ∷ l) (p ∷ k) n m h g low = absurd h

short_octets : (l : List ℕ) (n : ℕ) → IsLength l n → n < 4294967296
short_octets [] n h = absurd h
short_octets (a ∷ []) n h = omega (arith, h.0, h.1)
short_octets (x ∷ a ∷ []) n h = omega (arith, h.1, h.3)
short_octets (x ∷ a ∷ b ∷ []) n h = omega (arith, h.1, h.2, h.4)
short_octets (x ∷ a ∷ b ∷ c ∷ []) n h = omega (arith, h.1, h.2, h.3, h.5)
short_octets (x ∷ a ∷ b ∷ c ∷ d ∷ []) n h = omega (arith, h.1, h.2, h.3, h.4, h.6)
short_octets (x ∷ a ∷ b ∷ c ∷ d ∷ e ∷ s) n h = absurd h

-- an element has fewer than 2^32 bytes of content
pub contents_fit : (t : ℕ) (c x : List ℕ) → IsTlv t c x → length c < 4294967296
contents_fit t c x is = short_octets is.size (length c) is.definite

-- if an element's content is not longer than another's, its text is not longer either
pub elements_grow : (t u : ℕ) (c d x : List ℕ) → IsTlv u d x → length c ≤ length d → length (element_text t c) ≤ length x
elements_grow t u c d x is low =
    let l = length_octets (length c) in
    let fits = contents_fit u d x is in
    let grow = octets_grow l is.size (length c) (length d) (are_octets (length c) (omega (arith, fits, low))) is.definite low in
    let first : length (element_text t c) ≡ suc (length l + length c) = ap suc (length-append l c) in
    let second : length x ≡ suc (length is.size + length d) = ap length is.text ∙ ap suc (length-append is.size d) in
    omega (arith, first, second, grow, low)
