-- The texts of lines, and the bytes that they write.
use Rattle.std.proofs.Common.{◌≡◌, ◌∙◌, ℕ, zero, suc, ◌+◌, ◌/◌, ◌%◌, ◌<◌, ◌≤◌, List, [], ◌∷◌, ◌++◌, length, take, drop, All, sym, refl, ap, arith, ⊎_elim, length-append, length-drop}
use Rattle.std.specs.Prelude.{codes, Ok, Err, Result, OnOk, MatchResult, Option, Some, None, IsSome, IfSome, MatchOption, slice_index, Bool, true, false, not, nat_eq, if◌then◌else◌}
use Rattle.std.specs.Result.{is_err}
use Rattle.std.specs.Str.{bytes_eq}
use Rattle.std.proofs.lemmas.Slice.Eq.{bytes_eq-Decides}
use Rattle.std.proofs.Common.{subst}
use Rattle.std.specs.Int.{byte_at, bytes_high_first}
use Rattle.std.proofs.lemmas.Bool.{cases_lt, cases_Bool, both_ways}
use Rattle.std.proofs.Common.{eq-eqb}
use Rattle.std.proofs.lemmas.List.{take-append-drop, take_all, length-take-le, get_or_past}
use Rattle.std.proofs.lemmas.List.Elements.{All-nil, All-cons, All-append, All-get_or, All-head, All-tail, All-take, All-drop}
use Rattle.hex.specs.Hex.{encode_with, encode_lower, lower_digits, decode_of, IsBytes}
use Rattle.hex.proofs.HexLemmas.{length-encode_with, decode_of-encode_lower, decode_of-same}
use Rattle.ct_codec.specs.Bytes.{num}
use Rattle.ct_codec.proofs.Apart.{num_split, split_equal}
use Rattle.ct_codec.proofs.Refusals.{length-num}
use Rattle.ct_step.specs.StateLines.{IsStateLine, state_line_bytes, state_line_text, NoStateLine, StateLinesDiffer, StateLinesAreLines}
use Rattle.ct_step.specs.declared.line.StateLine.{StateLine}

abbrev pub small : ℕ → Type 0
small b = b < 256

-- ---- the bytes of numbers
byte : (w n : ℕ) → byte_at w n < 256
byte zero n = omega arith
byte (suc w) n = omega arith

bytes_small : (w n : ℕ) → All small (bytes_high_first w n)
bytes_small zero n = All-nil small
bytes_small (suc w) n = All-cons small (byte_at w n) (bytes_high_first w n) (byte w n) (bytes_small w n)

pub num_small : (w n : ℕ) → All small (num w n)
unfolding num
num_small w n = bytes_small w n

-- ---- the bytes of a line
pub length-bytes : (a : StateLine) → IsStateLine a → length (state_line_bytes a) ≡ 144
length-bytes a h =
    omega (
      arith,
      length-num 8 a.tree_size,
      length-num 8 a.timestamp,
      h.root.0,
      h.bundle.0,
      h.data_tile.0,
      h.before.0,
      length-append (num 8 a.tree_size) (num 8 a.timestamp ++ (a.root ++ (a.bundle ++ (a.data_tile ++ a.before)))),
      length-append (num 8 a.timestamp) (a.root ++ (a.bundle ++ (a.data_tile ++ a.before))),
      length-append a.root (a.bundle ++ (a.data_tile ++ a.before)),
      length-append a.bundle (a.data_tile ++ a.before),
      length-append a.data_tile a.before,
    )

bytes-small : (a : StateLine) → IsStateLine a → All small (state_line_bytes a)
bytes-small a h =
    All-append small (num 8 a.tree_size) (num 8 a.timestamp ++ (a.root ++ (a.bundle ++ (a.data_tile ++ a.before)))) (num_small 8 a.tree_size)
    (All-append small (num 8 a.timestamp) (a.root ++ (a.bundle ++ (a.data_tile ++ a.before))) (num_small 8 a.timestamp)
    (All-append small a.root (a.bundle ++ (a.data_tile ++ a.before)) h.root.1
    (All-append small a.bundle (a.data_tile ++ a.before) h.bundle.1
    (All-append small a.data_tile a.before h.data_tile.1 h.before.1))))

pub indexed : (xs : List ℕ) → All small xs → IsBytes xs
indexed xs a i =
    ⊎_elim
    (λ (inside : i < length xs). All-get_or small xs i 0 inside a)
    (λ (past : length xs ≤ i). let e : slice_index xs i ≡ 0 = get_or_past xs i 0 past in omega (arith, e))
    (cases_lt i (length xs))

pub are_bytes : (a : StateLine) → IsStateLine a → IsBytes (state_line_bytes a)
are_bytes a h = indexed (state_line_bytes a) (bytes-small a h)

-- bytes with one text
pub digits_same : (x y : List ℕ) → IsBytes x → IsBytes y → encode_lower x ≡ encode_lower y → x ≡ y
digits_same x y p q e =
    decode_of-same (encode_lower x) x y (decode_of-encode_lower x p) (ap decode_of e ∙ decode_of-encode_lower y q)

-- ---- two lines
pub behind_word : (x y : List ℕ) → codes "growth " ++ x ≡ codes "growth " ++ y → x ≡ y
behind_word x y e = (split_equal (codes "growth ") (codes "growth ") x y refl e).1

abbrev line_of : ℕ → ℕ → List ℕ → List ℕ → List ℕ → List ℕ → StateLine
line_of n t r b d p = record { tree_size = n; timestamp = t; root = r; bundle = b; data_tile = d; before = p }

same_fields : (a b : StateLine) → IsStateLine a → IsStateLine b → state_line_bytes a ≡ state_line_bytes b → a ≡ b
same_fields a b h k e =
    let n = num_split 8 a.tree_size b.tree_size _ _ (omega (arith, h.size)) (omega (arith, k.size)) e in
    let t = num_split 8 a.timestamp b.timestamp _ _ (omega (arith, h.moment)) (omega (arith, k.moment)) n.1 in
    let r = split_equal a.root b.root _ _ (h.root.0 ∙ sym k.root.0) t.1 in
    let u = split_equal a.bundle b.bundle _ _ (h.bundle.0 ∙ sym k.bundle.0) r.1 in
    let d = split_equal a.data_tile b.data_tile _ _ (h.data_tile.0 ∙ sym k.data_tile.0) u.1 in
    ap (λ (z : ℕ). line_of z a.timestamp a.root a.bundle a.data_tile a.before) n.0
    ∙ ap (λ (z : ℕ). line_of b.tree_size z a.root a.bundle a.data_tile a.before) t.0
    ∙ ap (λ (z : List ℕ). line_of b.tree_size b.timestamp z a.bundle a.data_tile a.before) r.0
    ∙ ap (λ (z : List ℕ). line_of b.tree_size b.timestamp b.root z a.data_tile a.before) u.0
    ∙ ap (λ (z : List ℕ). line_of b.tree_size b.timestamp b.root b.bundle z a.before) d.0
    ∙ ap (λ (z : List ℕ). line_of b.tree_size b.timestamp b.root b.bundle b.data_tile z) d.1

pub state_lines_differ : StateLinesDiffer
state_lines_differ a b h k e =
    same_fields a b h k
    (digits_same (state_line_bytes a) (state_line_bytes b) (are_bytes a h) (are_bytes b k)
    (behind_word (encode_lower (state_line_bytes a)) (encode_lower (state_line_bytes b)) e))

-- ---- a text is one line
abbrev no_end : ℕ → Type 0
no_end b = b ≡ 10 → ⊥

passes : List ℕ → Bool
passes [] = true
passes (x ∷ xs) = if nat_eq x 10 then false else passes xs

none_ends : (xs : List ℕ) → passes xs ≡ true → All no_end xs
unfolding passes
none_ends [] p = All-nil no_end
none_ends (x ∷ xs) p =
    ⊎_elim
    (λ (same : nat_eq x 10 ≡ true). absurd (both_ways true (sym p ∙ ap (λ b. if b then false else passes xs) same) refl))
    (λ (other : nat_eq x 10 ≡ false).
    All-cons no_end x xs (λ e. both_ways (nat_eq x 10) other (eq-eqb x 10 e)) (none_ends xs (sym (ap (λ b. if b then false else passes xs) other) ∙ p)))
    (cases_Bool (nat_eq x 10))

digits_no_end : All no_end lower_digits
unfolding passes
digits_no_end = none_ends lower_digits refl

word_no_end : All no_end (codes "growth ")
unfolding passes
word_no_end = none_ends (codes "growth ") refl

digit_no_end : (i : ℕ) → i < 16 → no_end (slice_index lower_digits i)
digit_no_end i h = All-get_or no_end lower_digits i 0 h digits_no_end

encoded_no_end : (xs : List ℕ) → All small xs → All no_end (encode_lower xs)
unfolding encode_with
encoded_no_end [] a = All-nil no_end
encoded_no_end (b ∷ xs) a =
    let byte : b < 256 = All-head small b xs a in
    All-cons no_end (slice_index lower_digits (b / 16)) (slice_index lower_digits (b % 16) ∷ encode_lower xs) (digit_no_end (b / 16) (omega (arith, byte)))
    (All-cons no_end (slice_index lower_digits (b % 16)) (encode_lower xs) (digit_no_end (b % 16) (omega arith)) (encoded_no_end xs (All-tail small b xs a)))

pub state_lines_are_lines : StateLinesAreLines
state_lines_are_lines a h = (
  omega (arith, length-append (codes "growth ") (encode_lower (state_line_bytes a)), length-encode_with lower_digits (state_line_bytes a), length-bytes a h),
  All-append no_end (codes "growth ") (encode_lower (state_line_bytes a)) word_no_end (encoded_no_end (state_line_bytes a) (bytes-small a h)),
)

-- ---- the results of the calls
-- the bytes that are decoded if it is known which bytes the digits write
pub decoded : {E : Type 0} (r : Result (List ℕ) E) (b out : List ℕ) (answer : Result (Unit {0}) E) → r ≡ Ok b
    → MatchResult r (λ bytes. (answer ≡ Ok tt) × (out ≡ bytes)) (λ e. answer ≡ Err e) → (answer ≡ Ok tt) × (out ≡ b)
decoded r b out answer e m = subst (λ x. MatchResult x (λ bytes. (answer ≡ Ok tt) × (out ≡ bytes)) (λ f. answer ≡ Err f)) e m

pub on_ok : {T E : Type 0} (r : Result T E) (P : Type 0) → is_err r ≡ false → OnOk r P → P
on_ok (Ok x) P e p = p
on_ok (Err x) P e p = absurd (both_ways true e refl)

-- a part of bytes, and the bytes after it
pub chunk : (n : ℕ) (x r S : List ℕ) → x ≡ take n S → r ≡ drop n S → length r + n ≡ length S → All small S
    → ((length x ≡ n) × All small x) × All small r
chunk n x r S e f l a =
    ((ap length e ∙ length-take-le n S (omega (arith, l)), subst (All small) (sym e) (All-take small n S a)), subst (All small) (sym f) (All-drop small n S a))

not_false : (b : Bool) → not b ≡ false → b ≡ true
not_false true e = refl
not_false false e = absurd (both_ways true e refl)

-- the digits after the word
pub digits_of : (text digits : List ℕ) (line : StateLine) → digits ≡ drop 7 text → state_line_text line ≡ text → encode_lower (state_line_bytes line) ≡ digits
digits_of text digits line d e = ap (drop 7) e ∙ sym d

-- the text from its two parts
pub text_of : (text word digits bytes : List ℕ) → word ≡ take 7 text → digits ≡ drop 7 text → bytes_eq word (codes "growth ") ≡ true
    → encode_lower bytes ≡ digits → codes "growth " ++ encode_lower bytes ≡ text
text_of text word digits bytes w d same e =
    ap (λ (x : List ℕ). codes "growth " ++ x) (e ∙ d)
    ∙ ap (λ (x : List ℕ). x ++ drop 7 text) (sym ((bytes_eq-Decides word (codes "growth ")).0 same) ∙ w)
    ∙ take-append-drop 7 text

pub word_is : (word : List ℕ) (differs : Bool) → differs ≡ not (bytes_eq word (codes "growth ")) → differs ≡ false → bytes_eq word (codes "growth ") ≡ true
word_is word differs e f = not_false (bytes_eq word (codes "growth ")) (sym e ∙ f)

pub line_read : (o : Option StateLine) (text bytes : List ℕ) → IsSome o → IfSome o (λ l. state_line_bytes l ≡ bytes) → IfSome o IsStateLine
    → codes "growth " ++ encode_lower bytes ≡ text → MatchOption o (NoStateLine text) (λ line. IsStateLine line × (state_line_text line ≡ text))
line_read (Some l) text bytes h e f t = (f, ap (λ (x : List ℕ). codes "growth " ++ encode_lower x) e ∙ t)
line_read None text bytes h e f t = cc h

-- ---- the parts of 144 bytes
pub whole : (b a r c s d t e u f v g : List ℕ) → length b ≡ 144 → a ≡ take 8 b → r ≡ drop 8 b → c ≡ take 8 r → s ≡ drop 8 r → d ≡ take 32 s
    → t ≡ drop 32 s → e ≡ take 32 t → u ≡ drop 32 t → f ≡ take 32 u → v ≡ drop 32 u → g ≡ take 32 v
    → a ++ (c ++ (d ++ (e ++ (f ++ g)))) ≡ b
whole b a r c s d t e u f v g l p1 p2 p3 p4 p5 p6 p7 p8 p9 p10 p11 =
    let last : length v ≤ 32 = omega (
      arith,
      l,
      ap length p2 ∙ length-drop 8 b,
      ap length p4 ∙ length-drop 8 r,
      ap length p6 ∙ length-drop 32 s,
      ap length p8 ∙ length-drop 32 t,
      ap length p10 ∙ length-drop 32 u,
    ) in
    let at_v : g ≡ v = p11 ∙ take_all 32 v last in
    let at_u : f ++ g ≡ u = rw (p9, at_v, p10) (take-append-drop 32 u) in
    let at_t : e ++ (f ++ g) ≡ t = ap (λ (x : List ℕ). e ++ x) at_u ∙ rw (p7, p8) (take-append-drop 32 t) in
    let at_s : d ++ (e ++ (f ++ g)) ≡ s = ap (λ (x : List ℕ). d ++ x) at_t ∙ rw (p5, p6) (take-append-drop 32 s) in
    let at_r : c ++ (d ++ (e ++ (f ++ g))) ≡ r = ap (λ (x : List ℕ). c ++ x) at_s ∙ rw (p3, p4) (take-append-drop 8 r) in
    ap (λ (x : List ℕ). a ++ x) at_r ∙ rw (p1, p2) (take-append-drop 8 b)
