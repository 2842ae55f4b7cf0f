-- The indexes of the first entries of a batch in it.
use Rattle.std.proofs.Common.{◌≡◌, ◌∙◌, ℕ, zero, suc, ◌+◌, ◌<◌, ◌≤◌, Bool, true, false, ◌||◌, not, cond, List, [], ◌∷◌, ◌++◌, length, map, get_or, All, AllPairs, Option, Some, refl, ap, arith, append_assoc, length-append}
use Rattle.std.specs.Prelude.{slice_get}
use Rattle.std.specs.List.{list_any, position_or_len}
use Rattle.std.specs.Str.{bytes_eq}
use Rattle.std.proofs.lemmas.List.Elements.{All-nil, All-cons, All-head, All-tail, All-append, All-weaker}
use Rattle.std.proofs.lemmas.List.Kept.{AllPairs-cons}
use Rattle.ct_codec.specs.Submitted.{identity_of}
use Rattle.ct_step.specs.StepRepeats.{BatchEntry, is_known, with_identity, first_of_each, places_of_all}

-- the indexes of the first entries, if the batch begins at the index n
abbrev pub indexes_from : List (List ℕ) → ℕ → List BatchEntry → List ℕ
indexes_from known n [] = []
indexes_from known n (e ∷ batch) = cond (is_known known e) [] (n ∷ []) ++ indexes_from (with_identity known e) (suc n) batch

-- ---- the entries there
one_there : (t : Bool) (g : ℕ → Option BatchEntry) (n : ℕ) (e : BatchEntry) (R : List ℕ) (F : List BatchEntry) → g n ≡ Some e → map g R ≡ map Some F
    → map g (cond t [] (n ∷ []) ++ R) ≡ map Some (cond t [] (e ∷ []) ++ F)
one_there true g n e R F is rest = rest
one_there false g n e R F is rest = ap (λ o. o ∷ map g R) is ∙ ap (λ l. Some e ∷ l) rest

entries_from : (g : ℕ → Option BatchEntry) (K : List (List ℕ)) (n : ℕ) (B : List BatchEntry) → ((j : ℕ) → g (n + j) ≡ slice_get B j)
    → map g (indexes_from K n B) ≡ map Some (first_of_each K B)
entries_from g K n [] is = refl
entries_from g K n (e ∷ B) is =
    let here : n ≡ n + 0 = omega arith in
    one_there (is_known K e) g n e (indexes_from (with_identity K e) (suc n) B) (first_of_each (with_identity K e) B) (ap g here ∙ is 0)
    (entries_from g (with_identity K e) (suc n) B (λ j.
    let next : suc n + j ≡ n + suc j = omega arith in
    ap g next ∙ is (suc j)))

pub entries_there : (B : List BatchEntry) → map (slice_get B) (indexes_from [] 0 B) ≡ map Some (first_of_each [] B)
entries_there B = entries_from (slice_get B) [] 0 B (λ j.
    let same : 0 + j ≡ j = omega arith in
    ap (slice_get B) same)

-- ---- in order
abbrev Below : ℕ → ℕ → Type 0
Below i j = i < j

one_above : (t : Bool) (m n : ℕ) → m < n → All (Below m) (cond t [] (n ∷ []))
one_above true m n h = All-nil (Below m)
one_above false m n h = All-cons (Below m) n [] h (All-nil (Below m))

above : (m : ℕ) (K : List (List ℕ)) (n : ℕ) (B : List BatchEntry) → m < n → All (Below m) (indexes_from K n B)
above m K n [] h = All-nil (Below m)
above m K n (e ∷ B) h =
    All-append (Below m) (cond (is_known K e) [] (n ∷ [])) (indexes_from (with_identity K e) (suc n) B) (one_above (is_known K e) m n h)
    (above m (with_identity K e) (suc n) B (omega (arith, h)))

one_before : (t : Bool) (n : ℕ) (R : List ℕ) → All (Below n) R → AllPairs Below R → AllPairs Below (cond t [] (n ∷ []) ++ R)
one_before true n R all rest = rest
one_before false n R all rest = AllPairs-cons Below n R all rest

pub indexes_rise : (K : List (List ℕ)) (n : ℕ) (B : List BatchEntry) → AllPairs Below (indexes_from K n B)
indexes_rise K n [] = λ i j d l h. absurd (omega (arith, l, h))
indexes_rise K n (e ∷ B) =
    one_before (is_known K e) n (indexes_from (with_identity K e) (suc n) B) (above n (with_identity K e) (suc n) B (omega arith))
    (indexes_rise (with_identity K e) (suc n) B)

-- ---- no later than the entry
room_if : (b any : Bool) (p n : ℕ) → p < n + cond any 0 1 → cond (not b) (1 + p) 0 < suc n + cond (b || any) 0 1
room_if true any p n h = omega arith
room_if false any p n h = omega (arith, h)

room : (x : List ℕ) (K : List (List ℕ)) → position_or_len (bytes_eq x) K < length K + cond (list_any (bytes_eq x) K) 0 1
room x [] = omega arith
room x (y ∷ K) = room_if (bytes_eq x y) (list_any (bytes_eq x) K) (position_or_len (bytes_eq x) K) (length K) (room x K)

abbrev IsBefore : ℕ → ℕ → Type 0
IsBefore n c = c < n

at_most : (t : Bool) (C R : List ℕ) (n p : ℕ) → All (IsBefore n) C → p < length C + cond t 0 1 → get_or (C ++ (cond t [] (n ∷ []) ++ R)) p 0 ≤ n
at_most true [] R n p all h = absurd (omega (arith, h))
at_most false [] R n zero all h = omega arith
at_most false [] R n (suc p) all h = absurd (omega (arith, h))
at_most t (c ∷ C) R n zero all h = omega (arith, All-head (IsBefore n) c C all)
at_most t (c ∷ C) R n (suc p) all h = at_most t C R n p (All-tail (IsBefore n) c C all) (omega (arith, h))

as_long : (t : Bool) (C : List ℕ) (n : ℕ) (K : List (List ℕ)) (x : List ℕ) → length C ≡ length K
    → length (C ++ cond t [] (n ∷ [])) ≡ length (cond t K (K ++ x ∷ []))
as_long true C n K x same = omega (arith, same, length-append C [])
as_long false C n K x same = omega (arith, same, length-append C (n ∷ []), length-append K (x ∷ []))

one_below : (t : Bool) (n : ℕ) → All (IsBefore (suc n)) (cond t [] (n ∷ []))
one_below true n = All-nil (IsBefore (suc n))
one_below false n = All-cons (IsBefore (suc n)) n [] (omega arith) (All-nil (IsBefore (suc n)))

-- C has the indexes of the known identities, all of them before n
first_from : (K : List (List ℕ)) (C : List ℕ) (n : ℕ) (B : List BatchEntry) → length C ≡ length K → All (IsBefore n) C
    → (j : ℕ) → j < length B → get_or (C ++ indexes_from K n B) (get_or (places_of_all K B) j 0) 0 ≤ n + j
first_from K C n [] same all j h = absurd (omega (arith, h))
first_from K C n (e ∷ B) same all zero h =
    let x = identity_of e.0 in
    let inside : position_or_len (bytes_eq x) K < length C + cond (is_known K e) 0 1 = omega (arith, same, room x K) in
    omega
    (arith, at_most (is_known K e) C (indexes_from (with_identity K e) (suc n) B) n (position_or_len (bytes_eq x) K) all inside)
first_from K C n (e ∷ B) same all (suc j) h =
    let t = is_known K e in
    let D = C ++ cond t [] (n ∷ []) in
    let R = indexes_from (with_identity K e) (suc n) B in
    let p = get_or (places_of_all (with_identity K e) B) j 0 in
    let behind : get_or (D ++ R) p 0 ≤ suc n + j =
    first_from (with_identity K e) D (suc n) B (as_long t C n K (identity_of e.0) same)
    (All-append (IsBefore (suc n)) C (cond t [] (n ∷ []))
    (All-weaker (IsBefore n) (IsBefore (suc n)) (λ c l. omega (arith, l)) C all) (one_below t n))
    j (omega (arith, h)) in
    let moved : get_or (D ++ R) p 0 ≡ get_or (C ++ (cond t [] (n ∷ []) ++ R)) p 0 =
    ap (λ (l : List ℕ). get_or l p 0) (append_assoc C (cond t [] (n ∷ [])) R) in
    omega (arith, behind, moved)

pub none_before : (B : List BatchEntry) (j : ℕ) → j < length B → get_or (indexes_from [] 0 B) (get_or (places_of_all [] B) j 0) 0 ≤ j
none_before B j h = omega (arith, first_from [] [] 0 B refl (All-nil (IsBefore 0)) j h)
