-- The lines of a text, and the parts that a checkpoint's text has.
use Rattle.std.proofs.Common.{◌≡◌, ◌≢◌, ◌⊎◌, inl, inr, ◌<◌, ◌+◌, ◌^◌, ◌∙◌, ◌==◌, ℕ, Bool, true, false, List, [], ◌∷◌, ◌++◌, length, get_or, take, Option, Some, None, All, decimal, Result, Ok, Err, sym, refl, ap, subst, arith, length-append, suc}
use Rattle.std.specs.Prelude.{MatchOption, IfNone}
use Rattle.std.specs.Borrow.{Bor}
use Rattle.std.specs.List.{position_or_len, before_first, after_first}
use Rattle.std.proofs.lemmas.Bool.{eqb-true, eq-eqb}
use Rattle.std.proofs.lemmas.List.{get_or-take, length-take}
use Rattle.std.proofs.lemmas.Option.{none-some}
use Rattle.std.proofs.lemmas.List.Elements.{All-from_get_or, All-nil, All-cons, All-head, All-tail}
use Rattle.std.proofs.lemmas.List.Sums.{fails_before_first, passes_at_first, split_at_first}
use Rattle.std.proofs.Math.Seq.{get_or-append_seam}
use Rattle.std.specs.Str.Parse.{AllDigits, ParsesUnsigned}
use Rattle.std.specs.Result.{result_ok}
use Rattle.std.proofs.lemmas.Fmt.{decimal_is_IsNumeral, parse-decimal}
use Rattle.std.proofs.lemmas.Str.Parse.{digit_from_value}
use Rattle.base64.specs.Engines.{standard}
use Rattle.std.specs.Bool.{MatchBool}
use Rattle.base64.specs.GeneralPurpose.{decode_of, encode_of, IsDecodeFailure}
use Rattle.base64.specs.declared.decode.DecodeAllocError.{DecodeAllocError}
use Rattle.base64.specs.declared.decode.DecodeAllocError.TheVariants.{DecodeError as Failed, OutOfMemory}
use Rattle.ct_checkpoint.specs.Checkpoint.{checkpoint_text, of_decoding, IsCheckpoint, IsCheckpointFault, IsNumber, IsOriginOf, IsRootOfTree, HasSize, IsWithinLine}
use Rattle.ct_checkpoint.specs.declared.fault.CheckpointFault.{CheckpointFault}
use Rattle.ct_checkpoint.specs.declared.fault.CheckpointFault.TheVariants.{BadRoot, Memory}

-- a byte is a line end
abbrev is_end : ℕ → Bool
is_end b = b == 10

no_end : (text line rest : List ℕ) → position_or_len is_end text ≡ length text → text ≡ line ++ 10 ∷ rest → ⊥
no_end text line rest p e =
    let size : length text ≡ length line + suc (length rest) = ap length e ∙ length-append line (10 ∷ rest) in
    let fails : is_end (get_or text (length line) 0) ≡ false = fails_before_first is_end text (length line) 0 (omega (arith, p, size)) in
    let here : get_or text (length line) 0 ≡ 10 = ap (λ (t : List ℕ). get_or t (length line) 0) e ∙ get_or-append_seam line 10 rest 0 in
    let is : is_end (get_or text (length line) 0) ≡ true = eq-eqb (get_or text (length line) 0) 10 here in
    cc

within : (text : List ℕ) → All (λ b. b ≢ 10) (before_first is_end text)
within text =
    All-from_get_or (λ b. b ≢ 10) (before_first is_end text) 0
    (λ i h e.
    let here : i < length (take (position_or_len is_end text) text) = h in
    let size = length-take (position_or_len is_end text) text in
    let first : i < position_or_len is_end text = omega (arith, size, here) in
    let same : get_or (before_first is_end text) i 0 ≡ get_or text i 0 = get_or-take (position_or_len is_end text) text i 0 first in
    let fails : is_end (get_or text i 0) ≡ false = fails_before_first is_end text i 0 first in
    let is : is_end (get_or text i 0) ≡ true = eq-eqb (get_or text i 0) 10 (sym same ∙ e) in
    cc)

first_end : (text a b : List ℕ) → position_or_len is_end text < length text → a ≡ before_first is_end text → b ≡ after_first is_end text
    → (text ≡ a ++ 10 ∷ b) × IsWithinLine a
first_end text a b p e f =
    let here : get_or text (position_or_len is_end text) 0 ≡ 10 =
    eqb-true (get_or text (position_or_len is_end text) 0) 10 (passes_at_first is_end text 0 p) in
    let whole = split_at_first is_end text 0 p in (
      whole ∙ ap (λ (n : ℕ). before_first is_end text ++ n ∷ after_first is_end text) here
          ∙ ap (λ (x : List ℕ). x ++ 10 ∷ after_first is_end text) (sym e) ∙ ap (λ (x : List ℕ). a ++ 10 ∷ x) (sym f),
      subst IsWithinLine (sym e) (within text),
    )

-- the result of `split_once` at a line end
pub line_cut : (text : List ℕ) (r : Option (Bor (List ℕ) × Bor (List ℕ)))
    → MatchOption r (position_or_len is_end text ≡ length text)
    (λ x. (position_or_len is_end text < length text) × (x.0.now ≡ before_first is_end text) × (x.1.now ≡ after_first is_end text))
    → MatchOption r ((line rest : List ℕ) → text ≡ line ++ 10 ∷ rest → ⊥) (λ x. (text ≡ x.0.now ++ 10 ∷ x.1.now) × IsWithinLine x.0.now)
line_cut text None h = λ line rest e. no_end text line rest h e
line_cut text (Some x) h = first_end text x.0.now x.1.now h.0 h.1 h.2

-- a text with no line end is within a line
pub uncut : (text : List ℕ) → ((line rest : List ℕ) → text ≡ line ++ 10 ∷ rest → ⊥) → IsWithinLine text
uncut [] none = All-nil (λ b. b ≢ 10)
uncut (b ∷ text) none =
    All-cons (λ x. x ≢ 10) b text
    (λ e. none [] text (ap (λ (n : ℕ). n ∷ text) e))
    (uncut text (λ line rest e. none (b ∷ line) rest (ap (λ (xs : List ℕ). b ∷ xs) e)))

-- if the text is not cut
pub none_cut : (text : List ℕ) (r : Option (Bor (List ℕ) × Bor (List ℕ)))
    → MatchOption r (position_or_len is_end text ≡ length text)
    (λ x. (position_or_len is_end text < length text) × (x.0.now ≡ before_first is_end text) × (x.1.now ≡ after_first is_end text))
    → IfNone r (IsWithinLine text)
none_cut text None h = uncut text (λ line rest e. no_end text line rest h e)
none_cut text (Some x) h = tt

-- a text has one first line
pub one_first : (a b r s : List ℕ) → IsWithinLine a → IsWithinLine b → a ++ 10 ∷ r ≡ b ++ 10 ∷ s → (a ≡ b) × (r ≡ s)
one_first [] [] r s p q e = (refl, cc)
one_first [] (y ∷ b) r s p q e = let ten : y ≡ 10 = cc in absurd (All-head (λ x. x ≢ 10) y b q ten)
one_first (x ∷ a) [] r s p q e = let ten : x ≡ 10 = cc in absurd (All-head (λ x. x ≢ 10) x a p ten)
one_first (x ∷ a) (y ∷ b) r s p q e =
    let first : x ≡ y = cc in
    let more : a ++ 10 ∷ r ≡ b ++ 10 ∷ s = cc in
    let rest = one_first a b r s (All-tail (λ x. x ≢ 10) x a p) (All-tail (λ x. x ≢ 10) y b q) more in
    let same : a ≡ b = rest.0 in
    (cc, rest.1)

digits_within : (ds : List ℕ) → AllDigits 10 ds → All (λ b. b ≢ 10) ds
digits_within [] h = λ k d i. absurd (omega (arith, i))
digits_within (c ∷ cs) h =
    let k = digit_from_value c h.0 in
    All-cons (λ b. b ≢ 10) c cs (λ e. omega (arith, k.0, e)) (digits_within cs h.1)

-- a number in decimal is one line
number_within : (n : ℕ) → n < 2 ^ 64 → IsWithinLine (decimal n)
number_within n h = digits_within (decimal n) (decimal_is_IsNumeral n h).0.1

-- the result of reading a number
pub number_read : {E : Type 0} (text : List ℕ) (r : Result ℕ E) (o : Option ℕ) → ParsesUnsigned 64 10 text r → o ≡ result_ok r
    → MatchOption o ((n : ℕ) → n < 2 ^ 64 → text ≡ decimal n → ⊥) (λ k. (n : ℕ) → n < 2 ^ 64 → text ≡ decimal n → n ≡ k)
number_read text r None p e = λ n h t. let is = parse-decimal 64 n text r h h t p in let none : None ≡ Some n = e ∙ ap result_ok is in cc
number_read text r (Some k) p e = λ n h t. let is = parse-decimal 64 n text r h h t p in let some : Some k ≡ Some n = e ∙ ap result_ok is in cc

-- the conclusion about the text from the result of reading a number
pub number_is : {E : Type 0} (text : List ℕ) (r : Result ℕ E) (o : Option ℕ) → ParsesUnsigned 64 10 text r → o ≡ result_ok r
    → MatchOption o ((n : ℕ) → IsNumber n text → ⊥) (λ n. IsNumber n text)
number_is text (Ok x) None p e = absurd (none-some x e)
number_is text (Ok x) (Some k) p e = let some : Some k ≡ Some x = e in let same : k ≡ x = cc in (p.0.0, sym p.1 ∙ sym same, subst (λ (v : ℕ). v < 2 ^ 64) (sym p.1 ∙ sym same) p.0.1)
number_is text (Err x) None p e = λ n h. p (h.0, subst (λ (v : ℕ). v < 2 ^ 64) (sym h.1) h.2)
number_is text (Err x) (Some k) p e = absurd (none-some k (sym e))

-- the parts of a checkpoint's text, as its lines are cut
pub record HasParts (origin : List ℕ) (tree_size : ℕ) (tree_root first behind : List ℕ) : Type 0 where
  pub origin_is : origin ≡ first
  pub behind_is : behind ≡ decimal tree_size ++ 10 ∷ (encode_of standard tree_root ++ 10 ∷ [])

pub parts_of : (origin : List ℕ) (tree_size : ℕ) (tree_root text first behind : List ℕ) → IsCheckpoint origin tree_size tree_root text
    → text ≡ first ++ 10 ∷ behind → IsWithinLine first → HasParts origin tree_size tree_root first behind
unfolding checkpoint_text
parts_of origin n root text first behind c e w =
    let same = one_first origin first (decimal n ++ 10 ∷ (encode_of standard root ++ 10 ∷ [])) behind c.line w (sym c.text_is ∙ e) in
    record { origin_is = same.0; behind_is = sym same.1 }

pub no_lines : (origin : List ℕ) (tree_size : ℕ) (tree_root text : List ℕ) → IsCheckpoint origin tree_size tree_root text
    → ((line rest : List ℕ) → text ≡ line ++ 10 ∷ rest → ⊥) → ⊥
unfolding checkpoint_text
no_lines origin n root text c none = none origin (decimal n ++ 10 ∷ (encode_of standard root ++ 10 ∷ [])) c.text_is

-- the number and the text after it
pub number_and_rest : (tree_size : ℕ) (tree_root behind number rest : List ℕ) → tree_size < 2 ^ 64
    → behind ≡ decimal tree_size ++ 10 ∷ (encode_of standard tree_root ++ 10 ∷ []) → behind ≡ number ++ 10 ∷ rest → IsWithinLine number
    → (number ≡ decimal tree_size) × (rest ≡ encode_of standard tree_root ++ 10 ∷ [])
number_and_rest n root behind number rest h e f w =
    let same = one_first number (decimal n) rest (encode_of standard root ++ 10 ∷ []) w (number_within n h) (sym f ∙ e) in
    (same.0, same.1)

never_both : {X Y : Type 0} (r : Result X Y) (x : X) (y : Y) → r ≡ Ok x → r ≡ Err y → ⊥
never_both (Ok a) x y e f = cc
never_both (Err b) x y e f = cc

-- a text that is not decoded is no byte string's base64
pub undecoded : (text root : List ℕ) (error : DecodeAllocError) → of_decoding error ≢ Memory → IsDecodeFailure standard text error
    → decode_of standard text ≡ Ok root → ⊥
undecoded text root (Failed why) is failed ok = never_both (decode_of standard text) root why ok failed
undecoded text root OutOfMemory is failed ok = absurd (is refl)

-- a test that failed
pub failed_test : (t : Bool) (A B : Type 0) → MatchBool t A B → t ≡ false → B
failed_test true A B m e = absurd (the_false e)
  where
    the_false : true ≡ false → ⊥
    the_false e = cc
failed_test false A B m e = m

-- a checkpoint's text is the text that is written for the parts that were read
pub as_written : (origin : List ℕ) (tree_size : ℕ) (tree_root text first written root : List ℕ) (number : ℕ)
    → IsCheckpoint origin tree_size tree_root text → origin ≡ first → tree_size ≡ number → tree_root ≡ root
    → written ≡ checkpoint_text first number root
    → written ≡ text
as_written origin n tree_root text first written root number c e f g w =
    w ∙ ap (λ (x : List ℕ). checkpoint_text x number root) (sym e) ∙ ap (λ (m : ℕ). checkpoint_text origin m root) (sym f)
    ∙ ap (λ (x : List ℕ). checkpoint_text origin n x) (sym g) ∙ sym c.text_is

-- if no root's base64 follows, that is the fault, unless memory was refused
pub root_fault : (fault : CheckpointFault) (text origin rest behind : List ℕ) (n : ℕ) → IsOriginOf text origin rest → HasSize rest n behind
    → (fault ≡ BadRoot) ⊎ (fault ≡ Memory)
    → (fault ≢ Memory → (root : List ℕ) (last : ℕ) → IsRootOfTree root → behind ≡ encode_of standard root ++ last ∷ [] → ⊥)
    → IsCheckpointFault fault text
root_fault fault text origin rest behind n o s (inl is) none =
    let other : fault ≢ Memory = λ e. not_memory (sym is ∙ e) in
    subst (λ (f : CheckpointFault). IsCheckpointFault f text) (sym is) (origin, rest, n, behind, o, s, none other)
  where
    not_memory : BadRoot ≡ Memory → ⊥
    not_memory e = cc
root_fault fault text origin rest behind n o s (inr is) none =
    subst (λ (f : CheckpointFault). IsCheckpointFault f text) (sym is) (origin, rest, n, behind, o, s)

-- a line that is not empty has bytes
pub has_bytes : (line : List ℕ) (t : Bool) → t ≡ (length line == 0) → t ≡ false → 0 < length line
has_bytes [] t e f = absurd (the_true (sym e ∙ f))
  where
    the_true : true ≡ false → ⊥
    the_true e = cc
has_bytes (x ∷ line) t e f = omega (arith)
