-- The part of a line that is kept, piece by piece.
use Rattle.std.proofs.Common.{◌≡◌, ◌⊎◌, inl, inr, ◌≢◌, ◌<◌, ◌≤◌, ◌+◌, ◌-◌, ℕ, zero, suc, Bool, true, false, cond, List, [], ◌∷◌, ◌++◌, All, length, take, get_or, min, eqb, ◌&&◌}
use Rattle.std.proofs.Common.{Option, Some, None, Result, Ok, Err, IfSome, refl, sym, ap, subst, ◌∙◌, arith, append_assoc, append-nil, le_refl, length-append}
use Rattle.std.proofs.Common.{length-take-le, ne_eqb, take_all}
use Rattle.std.proofs.lemmas.Bool.{cases_lt, lt-ltb}
use Rattle.std.proofs.lemmas.List.{length-take, take-append-le, take_more}
use Rattle.std.proofs.lemmas.List.Elements.{All-append, All-get_or, All-take}
use Rattle.std.proofs.Math.Seq.{get_or-append_seam, take-append-add, take-append_seam}
use Rattle.std.specs.Prelude.{OnErr}
use Rattle.std.proofs.KnownBytes.{Consumes-nil, Consumes-kept, Consumes-trans}
use Rattle.std.proofs.BufReadLemmas.{Consumes_through, take_through-nil, take_through_nonempty}
use Rattle.std.specs.Io.{StopsAt, IsEmptyOrEndsWith}
use Rattle.std.specs.Io.KnownBytes.{Consumes, Keeps}
use Rattle.std.specs.Io.BufRead.{drop_through, ends_with_byte, first_piece, strip_last, take_through, DropsThrough}
use Rattle.json_lines.specs.Lines.{kept_line, IsKeptOf, IsFirstLine, TakesNext, TakesPiece, TakesFirstLine}

-- the first `room` bytes of the first `end` bytes
take_within : (xs : List ℕ) (room end n : ℕ) → n ≡ min end room → take n xs ≡ take room (take end xs)
take_within xs zero end n is =
    let none : n ≡ 0 = omega arith in
    ap (λ k. take k xs) none
take_within xs (suc room) zero n is =
    let none : n ≡ 0 = omega arith in
    ap (λ k. take k xs) none
take_within [] (suc room) (suc end) n is =
    let next : n ≡ suc (min end room) = omega arith in
    ap (λ k. take k []) next
take_within (x ∷ xs) (suc room) (suc end) n is =
    let next : n ≡ suc (min end room) = omega arith in
    ap (λ k. take k (x ∷ xs)) next ∙ ap (λ l. x ∷ l) (take_within xs room end (min end room) refl)

-- if more bytes are appended, it does not matter that only the first n bytes were kept before
take_again : (n : ℕ) (xs ys : List ℕ) → take n (take n xs ++ ys) ≡ take n (xs ++ ys)
take_again zero xs ys = refl
take_again (suc n) [] ys = refl
take_again (suc n) (x ∷ xs) ys = ap (λ l. x ∷ l) (take_again n xs ys)

pub kept_more : (most n end : ℕ) (line shown : List ℕ) → length line ≤ most → n ≡ min end (most - length line)
    → line ++ take n shown ≡ take most (line ++ take end shown)
kept_more most n end line shown small is =
    let room = most - length line in
    let whole : length line + room ≡ most = omega arith in
    ap (λ l. line ++ l) (take_within shown room end n is) ∙ sym (take-append-add line (take end shown) room)
    ∙ ap (λ k. take k (line ++ take end shown)) whole

-- a fact that holds in the case of an error
pub of_error : {T E P : Type 0} (r : Result T E) → P → OnErr r P
of_error (Ok v) p = tt
of_error (Err e) p = p

pub all_of_none : All (λ (x : ℕ). x ≢ 10) []
all_of_none k d below = λ e. absurd (omega (arith, below))

-- nothing was taken
pub no_piece : {E : Type 0} (most : ℕ) (a b : Option (List ℕ)) (line line_then : List ℕ) (r : Result Bool E) → length line ≤ most → line_then ≡ line
    → Keeps a b → r ≢ Ok true → TakesPiece most a b line line_then r
no_piece most a b line line_then r small same kept more = record {
  bytes = [];
  taken = Consumes-kept a a b [] (Consumes-nil a) kept;
  kept = same ∙ sym (ap (take most) (append-nil line) ∙ take_all most line small);
  stops = all_of_none;
  goes_on = λ e. all_of_none;
  ends = λ e. absurd (more e);
  at_end = λ e. absurd (more e);
}

-- some bytes, none of which is 0A, were taken, and their beginning is kept
pub record TakenSoFar (most : ℕ) (left left_then : Option (List ℕ)) (line : List ℕ) : Type 0 where
  pub bytes : List ℕ
  pub taken : Consumes left left_then bytes
  pub goes_on : All (λ x. x ≢ 10) bytes
  pub kept : line ≡ take most bytes

take_none : (n : ℕ) → take {A = ℕ} n [] ≡ []
take_none zero = refl
take_none (suc n) = refl

pub none_so_far : (most : ℕ) (a : Option (List ℕ)) (line : List ℕ) → line ≡ [] → TakenSoFar most a a line
none_so_far most a line none = record { bytes = []; taken = Consumes-nil a; goes_on = all_of_none; kept = none ∙ sym (take_none most) }

pub has_room : (most : ℕ) (a b : Option (List ℕ)) (line : List ℕ) → TakenSoFar most a b line → length line ≤ most
has_room most a b line t =
    let long = ap length t.kept ∙ length-take most t.bytes in
    omega (arith, long)

module _ {E : Type 0} (most : ℕ) (a b c : Option (List ℕ)) (line line_then : List ℕ) (r : Result Bool E) (t : TakenSoFar most a b line)
    (p : TakesPiece most b c line line_then r)
  where
    kept_then : line_then ≡ take most (t.bytes ++ p.bytes)
    kept_then = p.kept ∙ ap (λ l. take most (l ++ p.bytes)) t.kept ∙ take_again most t.bytes p.bytes

    pub more_so_far : r ≢ Ok true → TakenSoFar most a c line_then
    more_so_far more = record {
      bytes = t.bytes ++ p.bytes;
      taken = Consumes-trans a b c t.bytes p.bytes t.taken p.taken;
      goes_on = All-append (λ x. x ≢ 10) t.bytes p.bytes t.goes_on (p.goes_on more);
      kept = kept_then;
    }

    pub kept_so_far : r ≢ Ok true → IsKeptOf most a c line_then
    kept_so_far more =
        let s = more_so_far more in
        (s.bytes, s.taken, s.goes_on, s.kept)

    pub line_taken : r ≡ Ok true → TakesFirstLine most a c line_then
    line_taken done =
        let read = Consumes_through 10 a b c t.bytes p.bytes t.taken t.goes_on p.taken p.stops (p.ends done) (p.at_end done) in
        at a read.0 read.1
      where
        at : (o : Option (List ℕ)) → IfSome o (λ xs. t.bytes ++ p.bytes ≡ take_through 10 xs) → DropsThrough o c 10 → TakesFirstLine most o c line_then
        at None e d = tt
        at (Some xs) e d = (kept_then ∙ ap (take most) e, d)

stripped : (l : List ℕ) → take (length (strip_last 10 l)) l ≡ strip_last 10 l
stripped l = at (ends_with_byte 10 l)
  where
    at : (b : Bool) → take (length (cond b (take (length l - 1) l) l)) l ≡ cond b (take (length l - 1) l) l
    at true = ap (λ k. take k l) (length-take-le (length l - 1) l (omega arith))
    at false = take_all (length l) l (le_refl (length l))

-- a line cut to the length of its content
pub cut_to_content : (l shown content cut : List ℕ) → shown ≡ l → content ≡ strip_last 10 shown → cut ≡ take (length content) l → cut ≡ strip_last 10 l
cut_to_content l shown content cut same is at =
    at ∙ ap (λ k. take (length k) l) (is ∙ ap (strip_last 10) same) ∙ stripped l

-- if a part of the line was kept, it is the first line
pub first_line : (most : ℕ) (a b : Option (List ℕ)) (line content : List ℕ) → TakesFirstLine most a b line → 0 < length line
    → content ≡ strip_last 10 line → IsFirstLine most a b content
first_line most None b line content t some is = tt
first_line most (Some xs) b line content t some is =
    let long = ap length t.0 ∙ length-take most (take_through 10 xs) in
    (take_through_nonempty 10 xs (omega (arith, long, some)), is ∙ ap (strip_last 10) t.0, t.1)

-- if nothing was kept, nothing was left
pub none_left : (most : ℕ) (a b : Option (List ℕ)) (line content : List ℕ) → 0 < most → TakesFirstLine most a b line → length line ≡ 0
    → TakesNext most a b content false
none_left most None b line content room t none = tt
none_left most (Some xs) b line content room t none =
    let long = ap length t.0 ∙ length-take most (take_through 10 xs) in
    let nothing = take_through-nil 10 xs (omega (arith, long, none, room)) in
    (nothing, t.1 ∙ ap (λ l. Some (drop_through 10 l)) nothing)

strip_one : (l : List ℕ) → length l ≤ length (strip_last 10 l) + 1
strip_one l = at (ends_with_byte 10 l)
  where
    at : (b : Bool) → length l ≤ length (cond b (take (length l - 1) l) l) + 1
    at true =
        let long = length-take-le (length l - 1) l (omega arith) in
        omega (arith, long)
    at false = omega arith

-- Either the kept part of a line is the whole line, or both have more than `longest` bytes. At most `longest` + 2 bytes are kept.
pub whole_or_long : (longest : ℕ) (xs : List ℕ)
    → (kept_line (longest + 2) xs ≡ first_piece 10 xs) ⊎ ((longest < length (kept_line (longest + 2) xs)) × (longest < length (first_piece 10 xs)))
whole_or_long longest xs =
    let line = take_through 10 xs in
    let kept = take (longest + 2) line in
    let long = length-take (longest + 2) line in
    elim (cases_lt (longest + 2) (length line)) [
      | inl more ↦ inr (omega (arith, more, long, strip_one kept), omega (arith, more, strip_one line))
      | inr whole ↦ inl (ap (strip_last 10) (take_all (longest + 2) line whole))
    ]

pub kept_fits : (most : ℕ) (kept xs : List ℕ) → kept ≡ take most xs → length kept ≤ most
kept_fits most kept xs is =
    let long = ap length is ∙ length-take most xs in
    omega (arith, long)

-- more is kept after the part that is already kept
pub kept_on : (most : ℕ) (kept after xs ys : List ℕ) → kept ≡ take most xs → after ≡ take most (kept ++ ys) → after ≡ take most (xs ++ ys)
kept_on most kept after xs ys is more = more ∙ ap (λ l. take most (l ++ ys)) is ∙ take_again most xs ys

-- bytes whose last one is at index k
strip_at : (xs : List ℕ) (k : ℕ) → length xs ≡ k + 1 → strip_last 10 xs ≡ cond (eqb (get_or xs k 0) 10) (take k xs) xs
strip_at xs k e = ap (λ (t : Bool). stripped t (length xs - 1)) (lt-ltb 0 (length xs) (omega (arith, e))) ∙ ap (λ (n : ℕ). stripped true n) (omega (arith, e))
  where
    stripped : Bool → ℕ → List ℕ
    stripped t n = cond (t && eqb (get_or xs n 0) 10) (take n xs) xs

strip_end : (xs : List ℕ) → strip_last 10 (xs ++ 10 ∷ []) ≡ xs
strip_end xs =
    strip_at (xs ++ 10 ∷ []) (length xs) (length-append xs (10 ∷ []))
    ∙ ap (λ b. cond (eqb b 10) (take (length xs) (xs ++ 10 ∷ [])) (xs ++ 10 ∷ [])) (get_or-append_seam xs 10 [] 0) ∙ take-append_seam xs (10 ∷ [])

strip_other : (xs : List ℕ) → All (λ x. x ≢ 10) xs → strip_last 10 xs ≡ xs
strip_other [] other = refl
strip_other (x ∷ xs) other =
    strip_at (x ∷ xs) (length xs) (omega arith)
    ∙ ap (λ (t : Bool). cond t (take (length xs) (x ∷ xs)) (x ∷ xs)) (ne_eqb (get_or (x ∷ xs) (length xs) 0) 10
    (All-get_or (λ y. y ≢ 10) (x ∷ xs) (length xs) 0 (omega arith) other))

strip_kept : (most : ℕ) (xs : List ℕ) → All (λ x. x ≢ 10) xs → strip_last 10 (take most (xs ++ 10 ∷ [])) ≡ take most xs
strip_kept most xs other = elim (cases_lt (length xs) most) [
  | inl whole ↦
      let long = length-append xs (10 ∷ []) in
      ap (strip_last 10) (take_all most (xs ++ 10 ∷ []) (omega (arith, long, whole))) ∙ strip_end xs ∙ sym (take_all most xs (omega (arith, whole)))
  | inr more ↦ ap (strip_last 10) (take-append-le most xs (10 ∷ []) more) ∙ strip_other (take most xs) (All-take (λ x. x ≢ 10) most xs other)
]

-- the kept part of a line that ends with the input
pub ends_here : (most : ℕ) (kept line : List ℕ) → kept ≡ take most line → All (λ x. x ≢ 10) line → strip_last 10 kept ≡ take most line
ends_here most kept line is other = ap (strip_last 10) is ∙ strip_other (take most line) (All-take (λ x. x ≢ 10) most line other)

-- the kept part of a line with its end
pub ends_on : (most : ℕ) (kept held line bs : List ℕ) → kept ≡ take most line
    → held ≡ take most (kept ++ (bs ++ 10 ∷ [])) → All (λ x. x ≢ 10) (line ++ bs) → strip_last 10 held ≡ take most (line ++ bs)
ends_on most kept held line bs is end other =
    ap (strip_last 10) (kept_on most kept held line (bs ++ 10 ∷ []) is end ∙ ap (take most) (sym (append_assoc line bs (10 ∷ []))))
    ∙ strip_kept most (line ++ bs) other

-- bytes that have the byte 0A at their end or nowhere, after bytes that do not have it
pub strip_stopped : (most : ℕ) (xs ys : List ℕ) → All (λ x. x ≢ 10) xs → StopsAt ys 10 → IsEmptyOrEndsWith ys 10
    → All (λ x. x ≢ 10) (strip_last 10 (take most (xs ++ ys)))
strip_stopped most xs [] other stops ends =
    let whole = All-take (λ x. x ≢ 10) most (xs ++ []) (subst (All (λ x. x ≢ 10)) (sym (append-nil xs)) other) in
    subst (All (λ x. x ≢ 10)) (sym (strip_other (take most (xs ++ [])) whole)) whole
strip_stopped most xs (y ∷ ys) other stops ends =
    let part = y ∷ ys in
    let front = take (length part - 1) part in
    let split : part ≡ front ++ 10 ∷ [] =
    sym (take_all (length part - 1 + 1) part (omega arith)) ∙ take_more part (length part - 1) 0 (omega arith) ∙ ap (λ b. front ++ b ∷ []) (ends (omega arith)) in
    let joined : xs ++ part ≡ (xs ++ front) ++ 10 ∷ [] = ap (λ l. xs ++ l) split ∙ sym (append_assoc xs front (10 ∷ [])) in
    let all = All-append (λ x. x ≢ 10) xs front other stops in
    subst (All (λ x. x ≢ 10)) (sym (ap (λ l. strip_last 10 (take most l)) joined ∙ strip_kept most (xs ++ front) all)) (All-take (λ x. x ≢ 10) most (xs ++ front) all)

-- the line that was taken has the byte 0A at its end or nowhere
pub taken_is_one : {E : Type 0} (most : ℕ) (a b c : Option (List ℕ)) (line line_then : List ℕ) (r : Result Bool E) → TakenSoFar most a b line
    → TakesPiece most b c line line_then r → r ≡ Ok true → All (λ x. x ≢ 10) (strip_last 10 line_then)
taken_is_one most a b c line line_then r t p done =
    subst (λ l. All (λ x. x ≢ 10) (strip_last 10 l)) (sym (kept_then most a b c line line_then r t p))
    (strip_stopped most t.bytes p.bytes t.goes_on p.stops (p.ends done))

pub none_is_one : (l : List ℕ) → length l ≡ 0 → All (λ x. x ≢ 10) l
none_is_one [] none = all_of_none
none_is_one (x ∷ xs) none = absurd (omega (arith, none))
