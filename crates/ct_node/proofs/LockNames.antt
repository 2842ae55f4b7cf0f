-- Numbers that are written are read again.
use Rattle.std.proofs.Common.{◌≡◌, ◌∙◌, ℕ, zero, suc, ◌+◌, ◌-◌, ◌/◌, ◌%◌, ◌<◌, ◌≤◌, ◌^◌, List, [], ◌∷◌, ◌++◌, length, take, drop, Some, None, Option, sym, refl, ap, subst, arith, length-append, append_assoc, append-nil, eq-eqb, ltb-true}
use Rattle.std.specs.Prelude.{codes, bytes_eq, option_map, option_and_then, Err, Bool, true, false, ◌==◌, ◌&&◌, nat_lt, if◌then◌else◌}
use Rattle.std.specs.Int.{w64, from_be_bytes}
use Rattle.std.proofs.lemmas.Nat.{from_be_bytes-to_be_bytes_8}
use Rattle.std.proofs.lemmas.Option.{none-some}
use Rattle.std.proofs.lemmas.Slice.Eq.{bytes_eq-Decides}
use Rattle.hex.specs.Hex.{lower_digits, decode_of, decode_pairs, decode_sized, IsBytes}
use Rattle.hex.specs.declared.error.FromHexError.TheVariants.{OddLength, InvalidStringLength}
use Rattle.hex.proofs.HexLemmas.{length-encode_with, decode_of-encode_lower}
use Rattle.ct_codec.specs.Bytes.{num}
use Rattle.ct_codec.proofs.Refusals.{length-num}
use Rattle.ct_step.proofs.StateLines.{num_small, indexed}
use Rattle.ct_node.specs.declared.state.State.{State}
use Rattle.ct_node.specs.LockText.{digits_number, decoded_number, number_digits, number_from, has_word, has_words, numbers_said, text_said, said_of, bundle_name, if_named, numbers_state}
use Rattle.ct_node.specs.LockLaws.{NamesSayTheirState, ReadNamesAreWritten, TextsSayTheirState}

-- ---- a number's digits

num_bytes : (n : ℕ) → IsBytes (num 8 n)
num_bytes n = indexed (num 8 n) (num_small 8 n)

digits_long : (n : ℕ) → length (number_digits n) ≡ 16
digits_long n = omega (arith, length-encode_with lower_digits (num 8 n), length-num 8 n)

sized : (text : List ℕ) → length text ≡ 16 → decode_sized text 8 ≡ decode_of text
sized text l =
    subst (λ z. (if z % 2 == 1 then Err OddLength else (if z / 2 == 8 then decode_pairs 0 text else Err InvalidStringLength))
    ≡ (if z % 2 == 1 then Err OddLength else decode_pairs 0 text)) (sym l) refl

number_back : (n : ℕ) → n < 2 ^ 64 → from_be_bytes w64 (num 8 n) ≡ n
unfolding num
number_back n h = from_be_bytes-to_be_bytes_8 n h

digits_read : (n : ℕ) → n < 2 ^ 64 → digits_number (number_digits n) ≡ Some n
unfolding digits_number
digits_read n h =
    ap decoded_number (sized (number_digits n) (digits_long n) ∙ decode_of-encode_lower (num 8 n) (num_bytes n)) ∙ ap Some (number_back n h)

-- ---- parts of lists

take_front : (xs ys : List ℕ) (n : ℕ) → length xs ≡ n → take n (xs ++ ys) ≡ xs
take_front [] ys n e = subst (λ z. take z ys ≡ []) e refl
take_front (x ∷ xs) ys zero e = absurd (omega (arith, e))
take_front (x ∷ xs) ys (suc n) e = ap (λ z. x ∷ z) (take_front xs ys n (omega (arith, e)))

drop_past : (xs ys : List ℕ) (n j : ℕ) → n ≡ length xs + j → drop n (xs ++ ys) ≡ drop j ys
drop_past [] ys n j e = let f : n ≡ j = omega (arith, e) in ap (λ z. drop z ys) f
drop_past (x ∷ xs) ys zero j e = absurd (omega (arith, e))
drop_past (x ∷ xs) ys (suc n) j e = drop_past xs ys n j (omega (arith, e))

-- the number whose digits follow other bytes
number_at : (n from : ℕ) (text rest : List ℕ) → n < 2 ^ 64 → drop from text ≡ number_digits n ++ rest → number_from from text ≡ Some n
number_at n from text rest h e =
    ap (λ z. digits_number (take 16 z)) e ∙ ap digits_number (take_front (number_digits n) rest 16 (digits_long n)) ∙ digits_read n h

-- the number whose digits are the last
number_last : (n from : ℕ) (text : List ℕ) → n < 2 ^ 64 → drop from text ≡ number_digits n → number_from from text ≡ Some n
number_last n from text h e = number_at n from text [] h (e ∙ sym (append-nil (number_digits n)))

three : {B : Type 0} (f : ℕ → ℕ → ℕ → B) (x y z : Option ℕ) (a b c : ℕ) → x ≡ Some a → y ≡ Some b → z ≡ Some c
    → option_and_then (λ a. option_and_then (λ b. option_map (λ c. f a b c) z) y) x ≡ Some (f a b c)
three f x y z a b c p q r =
    ap (λ v. option_and_then (λ a. option_and_then (λ b. option_map (λ c. f a b c) z) y) v) p
    ∙ ap (λ v. option_and_then (λ b. option_map (λ c. f a b c) z) v) q ∙ ap (λ v. option_map (λ c. f a b c) v) r

-- ---- names

pub names_say_their_state : NamesSayTheirState
names_say_their_state s h =
    let m = number_digits s.moment in
    let b = number_digits s.before in
    let c = number_digits s.salt in
    let name = bundle_name s in
    let long : length name ≡ 56 =
    omega (arith, digits_long s.moment, digits_long s.before, digits_long s.salt, length-append (m ++ b) c, length-append m b) in
    let read : numbers_state name ≡ Some s =
    three (λ m b c. record { moment = m; before = b; salt = c }) (number_from 8 name) (number_from 24 name) (number_from 40 name) s.moment s.before s.salt
    (number_at s.moment 8 name (b ++ c) h.0 (append_assoc m b c))
    (number_at s.before 24 name c h.1 (ap (λ z. drop 16 z) (append_assoc m b c) ∙ drop_past m (b ++ c) 16 0 (omega (arith, digits_long s.moment))))
    (number_last s.salt 40 name h.2 (drop_past (m ++ b) c 32 0 (omega (arith, digits_long s.moment, digits_long s.before, length-append m b)))) in
    ap (λ t. if t then option_and_then (if_named name) (numbers_state name) else None) (eq-eqb (length name) 56 long)
    ∙ ap (option_and_then (if_named name)) read ∙ ap (λ t. if t then Some s else None) ((bytes_eq-Decides name name).1 refl)

-- the state in an Option, or another one if there is none
abbrev state_or : State → Option State → State
state_or other None = other
state_or other (Some s) = s

named : (name : List ℕ) (found s : State) (same : Bool) → bytes_eq (bundle_name found) name ≡ same → (if same then Some found else None) ≡ Some s
    → name ≡ bundle_name s
named name found s true same e = sym ((bytes_eq-Decides (bundle_name found) name).0 same) ∙ ap bundle_name (ap (state_or s) e)
named name found s false same e = absurd (none-some s e)

numbered_name : (name : List ℕ) (s : State) (long : Bool) (numbers : Option State)
    → (if long then option_and_then (if_named name) numbers else None) ≡ Some s → name ≡ bundle_name s
numbered_name name s true (Some found) e = named name found s (bytes_eq (bundle_name found) name) refl e
numbered_name name s true None e = absurd (none-some s e)
numbered_name name s false numbers e = absurd (none-some s e)

pub read_names_are_written : ReadNamesAreWritten
read_names_are_written name s e = numbered_name name s (length name == 56) (numbers_state name) e

-- ---- texts

not_less : (a b : ℕ) → b ≤ a → nat_lt a b ≡ false
not_less a b h =
    elim (nat_lt a b) as (λ t. nat_lt a b ≡ t → t ≡ false) [
      | true ↦ λ q. absurd (omega (arith, ltb-true a b q, h))
      | false ↦ λ q. refl
    ] refl

four : {B : Type 0} (f : ℕ → ℕ → ℕ → ℕ → B) (w x y z : Option ℕ) (n a b c : ℕ) → w ≡ Some n → x ≡ Some a → y ≡ Some b → z ≡ Some c
    → option_and_then (λ n. option_and_then (λ a. option_and_then (λ b. option_map (λ c. f n a b c) z) y) x) w ≡ Some (f n a b c)
four f w x y z n a b c o p q r =
    ap (λ v. option_and_then (λ n. option_and_then (λ a. option_and_then (λ b. option_map (λ c. f n a b c) z) y) x) v) o
    ∙ three (λ a b c. f n a b c) x y z a b c p q r

all_four : (a b c d : Bool) → a ≡ true → b ≡ true → c ≡ true → d ≡ true → (a && (b && (c && d))) ≡ true
all_four true true true true p q r s = refl
all_four true true true false p q r s = s
all_four true true false d p q r s = r
all_four true false c d p q r s = q
all_four false b c d p q r s = p

module _ (n m b s : ℕ) (rest node : List ℕ) (hn : n < 2 ^ 64) (hm : m < 2 ^ 64) (hb : b < 2 ^ 64) (hs : s < 2 ^ 64) (hr : length rest ≡ 256) where
  abbrev dn : List ℕ
  dn = number_digits n

  abbrev dm : List ℕ
  dm = number_digits m

  abbrev last : List ℕ
  last = number_digits s ++ 10 ∷ []

  abbrev behind : List ℕ
  behind = number_digits b ++ last

  abbrev tail : List ℕ
  tail = (10 ∷ codes "salt ") ++ behind

  abbrev line : List ℕ
  line = codes "growth " ++ dn ++ dm ++ rest

  abbrev front : List ℕ
  front = line ++ (10 ∷ codes "node ") ++ node

  abbrev text : List ℕ
  text = front ++ (10 ∷ codes "salt ") ++ number_digits b ++ number_digits s ++ 10 ∷ []

  abbrev after_line : List ℕ
  after_line = (10 ∷ codes "node ") ++ (node ++ tail)

  line_long : length line ≡ 295
  line_long = omega (arith, digits_long n, digits_long m, hr, length-append (dn ++ dm) rest, length-append dn dm)

  tail_long : length tail ≡ 39
  tail_long =
      omega (arith, digits_long b, digits_long s, length-append (number_digits b) last, length-append (number_digits s) (10 ∷ []))

  whole : front ++ tail ≡ text
  whole =
      sym (append_assoc (front ++ (10 ∷ codes "salt ") ++ number_digits b) (number_digits s) (10 ∷ [])
      ∙ append_assoc (front ++ (10 ∷ codes "salt ")) (number_digits b) last ∙ append_assoc front (10 ∷ codes "salt ") behind)

  as_line : text ≡ line ++ after_line
  as_line = sym whole ∙ append_assoc (line ++ (10 ∷ codes "node ")) node tail ∙ append_assoc line (10 ∷ codes "node ") (node ++ tail)

  behind_word : dn ++ dm ++ rest ++ after_line ≡ dn ++ (dm ++ (rest ++ after_line))
  behind_word = append_assoc (dn ++ dm) rest after_line ∙ append_assoc dn dm (rest ++ after_line)

  text_long : length text ≡ length front + 39
  text_long = let e : length (front ++ tail) ≡ length text = ap length whole in omega (arith, e, length-append front tail, tail_long)

  front_long : 301 ≤ length front
  front_long = omega (arith, line_long, length-append (line ++ (10 ∷ codes "node ")) node, length-append line (10 ∷ codes "node "))

  from_tail : (k j : ℕ) → k + j ≡ 39 → drop (length text - k) text ≡ drop j tail
  from_tail k j e =
      ap (λ z. drop (length text - k) z) (sym whole) ∙ drop_past front tail (length text - k) j (omega (arith, text_long, e))

  ended : drop 38 tail ≡ 10 ∷ []
  ended =
      drop_past (number_digits b) last 32 16 (omega (arith, digits_long b)) ∙ drop_past (number_digits s) (10 ∷ []) 16 0 (omega (arith, digits_long s))

  salted : drop 22 tail ≡ last
  salted = drop_past (number_digits b) last 16 0 (omega (arith, digits_long b))

  worded : has_words text ≡ true
  worded =
      all_four (has_word 0 (codes "growth ") text) (has_word 295 (10 ∷ codes "node ") text) (has_word (length text - 39) (10 ∷ codes "salt ") text)
      (has_word (length text - 1) (10 ∷ []) text) refl
      (ap (λ z. bytes_eq (take 6 z) (10 ∷ codes "node ")) (ap (λ z. drop 295 z) as_line ∙ drop_past line after_line 295 0 (omega (arith, line_long))))
      (ap (λ z. bytes_eq (take 6 z) (10 ∷ codes "salt ")) (from_tail 39 0 refl))
      (ap (λ z. bytes_eq (take 1 z) (10 ∷ [])) (from_tail 1 38 refl ∙ ended))

  sized_in : number_from 7 text ≡ Some n
  sized_in = number_at n 7 text (dm ++ (rest ++ after_line)) hn (ap (λ z. drop 7 z) as_line ∙ behind_word)

  timed_in : number_from 23 text ≡ Some m
  timed_in =
      number_at m 23 text (rest ++ after_line) hm
      (ap (λ z. drop 23 z) as_line ∙ ap (λ z. drop 16 z) behind_word
      ∙ drop_past dn (dm ++ (rest ++ after_line)) 16 0 (omega (arith, digits_long n)))

  before_in : number_from (length text - 33) text ≡ Some b
  before_in = number_at b (length text - 33) text last hb (from_tail 33 6 refl)

  salt_in : number_from (length text - 17) text ≡ Some s
  salt_in = number_at s (length text - 17) text (10 ∷ []) hs (from_tail 17 22 refl ∙ salted)

  numbered : numbers_said text ≡ Some (said_of n m b s)
  numbered =
      four (λ n m b s. said_of n m b s) (number_from 7 text) (number_from 23 text) (number_from (length text - 33) text)
      (number_from (length text - 17) text) n m b s sized_in timed_in before_in salt_in

  said : text_said text ≡ Some (said_of n m b s)
  said =
      ap (λ t. if t then None else (if has_words text then numbers_said text else None))
      (not_less (length text) 340 (omega (arith, text_long, front_long)))
      ∙ ap (λ t. if t then numbers_said text else None) worded ∙ numbered

pub texts_say_their_state : TextsSayTheirState
texts_say_their_state n m b s rest node hn hm hb hs hr = said n m b s rest node hn hm hb hs hr
