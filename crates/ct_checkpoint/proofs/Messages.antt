-- The contents of a cosignature's message.
use Rattle.std.proofs.Common.{refl, ⊎_elim, cond, Bool, true, false, ◌==◌, ◌≡◌, ◌≢◌, ◌<◌, ◌^◌, ◌∙◌, ℕ, List, [], ◌∷◌, ◌++◌, Ok, codes, decimal, sym, ap, arith}
use Rattle.std.specs.Str.Parse.{AllDigits, IsNumeral, digits_value}
use Rattle.std.proofs.lemmas.Bool.{cases_Bool, cond-true, cond-false, eq-eqb}
use Rattle.std.proofs.lemmas.Str.Parse.{digit_from_value}
use Rattle.std.proofs.lemmas.Fmt.{decimal_is_IsNumeral}
use Rattle.std.proofs.lemmas.List.Elements.{All-nil, All-cons}
use Rattle.base64.specs.Engines.{standard}
use Rattle.base64.specs.GeneralPurpose.{encode_of, decode_of}
use Rattle.base64.proofs.EngineFacts.{decode_of-encode_of}
use Rattle.ct_checkpoint.proofs.Lines.{one_first}
use Rattle.ct_checkpoint.specs.Checkpoint.{checkpoint_text, IsWithinLine}
use Rattle.ct_checkpoint.specs.Message.{cosignature_message, MessagesDiffer, CheckpointsDiffer, MessageIsNoCheckpoint}

-- the text after one prefix
behind_one : (a s t : List ℕ) → a ++ s ≡ a ++ t → s ≡ t
behind_one [] s t e = e
behind_one (x ∷ a) s t e =
    let f : a ++ s ≡ a ++ t = cc in
    behind_one a s t f

-- a number in decimal is one line
digits_within : (ds : List ℕ) → AllDigits 10 ds → IsWithinLine ds
digits_within [] h = All-nil (λ b. b ≢ 10)
digits_within (c ∷ cs) h =
    let k = digit_from_value c h.0 in
    All-cons (λ b. b ≢ 10) c cs (λ e. omega (arith, k.0, e)) (digits_within cs h.1)

number_within : (n : ℕ) → n < 2 ^ 64 → IsWithinLine (decimal n)
number_within n h = digits_within (decimal n) (decimal_is_IsNumeral n h).0.1

-- a number in decimal determines the number
one_number : (m n : ℕ) → m < 2 ^ 64 → n < 2 ^ 64 → decimal m ≡ decimal n → m ≡ n
one_number m n h i e = sym (decimal_is_IsNumeral m h).1 ∙ ap (digits_value 10) e ∙ (decimal_is_IsNumeral n i).1

pub messages_differ : MessagesDiffer
unfolding cosignature_message
messages_differ m n s t h i e =
    let f = behind_one (codes "cosignature/v1\ntime ") (decimal m ++ (10 ∷ s)) (decimal n ++ (10 ∷ t)) e in
    let z = one_first (decimal m) (decimal n) s t (number_within m h) (number_within n i) f in
    (one_number m n h i z.0, z.1)

pub checkpoints_differ : CheckpointsDiffer
unfolding checkpoint_text
checkpoints_differ a b m n r s text c d =
    let e = sym c.text_is ∙ d.text_is in
    let first = one_first a b (decimal m ++ (10 ∷ (encode_of standard r ++ (10 ∷ [])))) (decimal n ++ (10 ∷ (encode_of standard s ++ (10 ∷ [])))) c.line d.line e in
    let second = one_first (decimal m) (decimal n) (encode_of standard r ++ (10 ∷ [])) (encode_of standard s ++ (10 ∷ [])) (number_within m c.size) (number_within n d.size) first.1 in
    let third : encode_of standard r ≡ encode_of standard s = without_end (encode_of standard r) (encode_of standard s) second.1 in
    let back : Ok r ≡ Ok s = sym (decode_of-encode_of standard r refl c.root.1) ∙ ap (decode_of standard) third ∙ decode_of-encode_of standard s refl d.root.1 in
    (first.0, one_number m n c.size d.size second.0, cc)
  where
    without_end : (x y : List ℕ) → x ++ (10 ∷ []) ≡ y ++ (10 ∷ []) → x ≡ y
    without_end [] [] e = refl
    without_end [] (y ∷ []) e = cc
    without_end [] (y ∷ z ∷ ys) e = cc
    without_end (x ∷ []) [] e = cc
    without_end (x ∷ z ∷ xs) [] e = cc
    without_end (x ∷ xs) (y ∷ ys) e =
        let h : x ≡ y = cc in
        let t : xs ++ (10 ∷ []) ≡ ys ++ (10 ∷ []) = cc in
        let i : xs ≡ ys = without_end xs ys t in
        cc

-- a text without line ends, by a test
is_one_line : List ℕ → Bool
is_one_line [] = true
is_one_line (x ∷ xs) = cond (x == 10) false (is_one_line xs)

one_line : (xs : List ℕ) → is_one_line xs ≡ true → IsWithinLine xs
unfolding is_one_line
one_line [] e = All-nil (λ b. b ≢ 10)
one_line (x ∷ xs) e =
    ⊎_elim
    (λ (is : x == 10 ≡ true). let f : false ≡ true = sym (cond-true (x == 10) false (is_one_line xs) is) ∙ e in absurd (true_is_not f))
    (λ (no : x == 10 ≡ false).
    All-cons (λ b. b ≢ 10) x xs (λ ten. let is : x == 10 ≡ true = eq-eqb x 10 ten in absurd (true_is_not (sym no ∙ is)))
    (one_line xs (sym (cond-false (x == 10) false (is_one_line xs) no) ∙ e)))
    (cases_Bool (x == 10))
  where
    true_is_not : false ≡ true → ⊥
    true_is_not f = cc

-- a number's first digit is not a letter
no_letter : (ds rest behind : List ℕ) → IsNumeral 10 ds → 116 ∷ rest ≡ ds ++ behind → ⊥
no_letter [] rest behind is e = absurd (omega (arith, is.0))
no_letter (c ∷ cs) rest behind is e =
    let h : 116 ≡ c = cc in
    let k = digit_from_value c is.1.0 in
    omega (arith, k.1, h)

pub message_is_no_checkpoint : MessageIsNoCheckpoint
unfolding cosignature_message checkpoint_text is_one_line
message_is_no_checkpoint m n s origin root c =
    let behind : List ℕ = encode_of standard root ++ (10 ∷ []) in
    let e : codes "cosignature/v1" ++ (10 ∷ (codes "time " ++ (decimal m ++ (10 ∷ s)))) ≡ origin ++ (10 ∷ (decimal n ++ (10 ∷ behind))) = c.text_is in
    let z = one_first (codes "cosignature/v1") origin (codes "time " ++ (decimal m ++ (10 ∷ s))) (decimal n ++ (10 ∷ behind)) (one_line (codes "cosignature/v1") refl) c.line e in
    no_letter (decimal n) (codes "ime " ++ (decimal m ++ (10 ∷ s))) (10 ∷ behind) (decimal_is_IsNumeral n c.size).0 z.1
