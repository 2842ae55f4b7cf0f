-- Steps of the loop that removes the repeats from a batch.
use Rattle.std.proofs.Common.{◌≡◌, ◌∙◌, ℕ, ◌+◌, Bool, true, false, ◌||◌, not, cond, List, [], ◌∷◌, ◌++◌, length, map, Vec, Global, sym, refl, ap, arith, append_assoc, append-nil, length-append}
use Rattle.std.specs.List.{list_any, position_or_len, zip}
use Rattle.std.specs.Str.{bytes_eq}
use Rattle.std.proofs.lemmas.List.{map_push}
use Rattle.std.proofs.lemmas.List.Elements.{All-push}
use Rattle.ct_codec.specs.Submitted.{Submitted, identity_of}
use Rattle.ct_step.specs.Entries.{AreShort, IsBatchOf}
use Rattle.ct_step.specs.StepRepeats.{BatchEntry, is_known, with_identity, first_of_each, places_of_all}
use Rattle.ct_step.specs.SplitSoFar.{known_behind, SplitSoFar}

-- the bytes of a vector
abbrev pub vec_bytes : Vec ℕ Global → List ℕ
vec_bytes v = v.items

-- ---- one more entry
known-push : (K : List (List ℕ)) (B : List BatchEntry) (e : BatchEntry) → known_behind K (B ++ e ∷ []) ≡ with_identity (known_behind K B) e
known-push K [] e = refl
known-push K (b ∷ B) e = known-push (with_identity K b) B e

-- the entry, if it is the first one with its identity
abbrev one_first : List (List ℕ) → BatchEntry → List BatchEntry
one_first known e = cond (is_known known e) [] (e ∷ [])

firsts-push : (K : List (List ℕ)) (B : List BatchEntry) (e : BatchEntry) → first_of_each K (B ++ e ∷ []) ≡ first_of_each K B ++ one_first (known_behind K B) e
firsts-push K [] e = append-nil (one_first K e)
firsts-push K (b ∷ B) e =
    ap (λ x. one_first K b ++ x) (firsts-push (with_identity K b) B e)
    ∙ sym (append_assoc (one_first K b) (first_of_each (with_identity K b) B) (one_first (known_behind (with_identity K b) B) e))

places-push : (K : List (List ℕ)) (B : List BatchEntry) (e : BatchEntry)
    → places_of_all K (B ++ e ∷ []) ≡ places_of_all K B ++ position_or_len (bytes_eq (identity_of e.0)) (known_behind K B) ∷ []
places-push K [] e = refl
places-push K (b ∷ B) e =
    ap (λ x. position_or_len (bytes_eq (identity_of b.0)) K ∷ x) (places-push (with_identity K b) B e)

zip_push : (S : List Submitted) (C : List (List (List ℕ))) (s : Submitted) (c : List (List ℕ)) → length C ≡ length S
    → zip (S ++ s ∷ []) (C ++ c ∷ []) ≡ zip S C ++ (s, c) ∷ []
zip_push [] [] s c e = refl
zip_push [] (d ∷ C) s c e = absurd (omega (arith, e))
zip_push (t ∷ S) [] s c e = absurd (omega (arith, e))
zip_push (t ∷ S) (d ∷ C) s c e = ap (λ l. (t, d) ∷ l) (zip_push S C s c (omega (arith, e)))

-- ---- a table's keys and the identities that they represent
any-bytes : (x : List ℕ) (ks : List (Vec ℕ Global)) → list_any (λ (k : Vec ℕ Global). bytes_eq x k.items) ks ≡ list_any (bytes_eq x) (map vec_bytes ks)
any-bytes x [] = refl
any-bytes x (k ∷ ks) = ap (λ b. bytes_eq x k.items || b) (any-bytes x ks)

position-bytes : (x : List ℕ) (ks : List (Vec ℕ Global))
    → position_or_len (λ (k : Vec ℕ Global). bytes_eq x k.items) ks ≡ position_or_len (bytes_eq x) (map vec_bytes ks)
position-bytes x [] = refl
position-bytes x (k ∷ ks) = ap (λ n. cond (not (bytes_eq x k.items)) (1 + n) 0) (position-bytes x ks)

-- two byte strings of a table are equal
abbrev pub same_bytes : Vec ℕ Global → Vec ℕ Global → Bool
same_bytes a b = bytes_eq a.items b.items

known_is : (keys : List (Vec ℕ Global)) (K : List (List ℕ)) (v : Vec ℕ Global) (e : BatchEntry) → map vec_bytes keys ≡ K → v.items ≡ identity_of e.0
    → list_any (same_bytes v) keys ≡ is_known K e
known_is keys K v e k i =
    any-bytes v.items keys ∙ ap (λ x. list_any (bytes_eq x) (map vec_bytes keys)) i ∙ ap (list_any (bytes_eq (identity_of e.0))) k

keys_if : (t : Bool) (keys : List (Vec ℕ Global)) (K : List (List ℕ)) (v : Vec ℕ Global) (x : List ℕ) → map vec_bytes keys ≡ K → v.items ≡ x
    → map vec_bytes (cond t keys (keys ++ v ∷ [])) ≡ cond t K (K ++ x ∷ [])
keys_if true keys K v x k i = k
keys_if false keys K v x k i = map_push vec_bytes keys v ∙ ap (λ (l : List (List ℕ)). l ++ v.items ∷ []) k ∙ ap (λ y. K ++ y ∷ []) i

split_step : (Y : List BatchEntry) (keys : List (Vec ℕ Global)) (S : List Submitted) (C : List (List (List ℕ))) (P : List ℕ) (e : BatchEntry) (v : Vec ℕ Global)
    (after : List (Vec ℕ Global)) (place : ℕ) (T : List Submitted) (D : List (List (List ℕ))) → SplitSoFar Y keys S C P → v.items ≡ identity_of e.0
    → after ≡ cond (list_any (same_bytes v) keys) keys (keys ++ v ∷ []) → place ≡ position_or_len (same_bytes v) keys → IsBatchOf (length T) D
    → zip T D ≡ zip S C ++ cond (list_any (same_bytes v) keys) [] (e ∷ []) → SplitSoFar (Y ++ e ∷ []) after T D (P ++ place ∷ [])
split_step Y keys S C P e v after place T D h i added found batch more =
    let K = known_behind [] Y in
    let x = identity_of e.0 in
    let t : list_any (same_bytes v) keys ≡ is_known K e = known_is keys K v e h.known i in
    record {
      known = ap (map vec_bytes) added ∙ keys_if (list_any (same_bytes v) keys) keys K v x h.known i ∙ ap (λ b. cond b K (K ++ x ∷ [])) t
          ∙ sym (known-push [] Y e);
      batch = batch;
      firsts = more ∙ ap (λ l. l ++ cond (list_any (same_bytes v) keys) [] (e ∷ [])) h.firsts
          ∙ ap (λ b. first_of_each [] Y ++ cond b [] (e ∷ [])) t ∙ sym (firsts-push [] Y e);
      places = ap (λ n. P ++ n ∷ [])
          (found ∙ position-bytes v.items keys ∙ ap (λ y. position_or_len (bytes_eq y) (map vec_bytes keys)) i ∙ ap (position_or_len (bytes_eq x)) h.known)
          ∙ ap (λ l. l ++ position_or_len (bytes_eq x) K ∷ []) h.places ∙ sym (places-push [] Y e);
    }

not_false : (b t : Bool) → b ≡ not t → b ≡ false → t ≡ true
not_false b true e f = refl
not_false b false e f = cc

not_true : (b t : Bool) → b ≡ not t → b ≡ true → t ≡ false
not_true b true e f = cc
not_true b false e f = refl

-- an entry whose identity is known
pub split_repeat : (Y : List BatchEntry) (keys : List (Vec ℕ Global)) (S : List Submitted) (C : List (List (List ℕ))) (P : List ℕ) (e : BatchEntry) (v : Vec ℕ Global)
    (after : List (Vec ℕ Global)) (place : ℕ) (first : Bool) → SplitSoFar Y keys S C P → v.items ≡ identity_of e.0
    → after ≡ cond (list_any (same_bytes v) keys) keys (keys ++ v ∷ []) → place ≡ position_or_len (same_bytes v) keys
    → first ≡ not (list_any (same_bytes v) keys) → first ≡ false → SplitSoFar (Y ++ e ∷ []) after S C (P ++ place ∷ [])
split_repeat Y keys S C P e v after place first h i added found is repeats =
    split_step Y keys S C P e v after place S C h i added found h.batch
    (sym (append-nil (zip S C)) ∙ ap (λ b. zip S C ++ cond b [] (e ∷ [])) (sym (not_false first (list_any (same_bytes v) keys) is repeats)))

-- an entry whose identity is not known
pub split_first : (Y : List BatchEntry) (keys : List (Vec ℕ Global)) (S : List Submitted) (C : List (List (List ℕ))) (P : List ℕ) (s : Submitted)
    (c : List (List ℕ)) (v : Vec ℕ Global) (after : List (Vec ℕ Global)) (place : ℕ) (first : Bool) → SplitSoFar Y keys S C P → v.items ≡ identity_of s
    → after ≡ cond (list_any (same_bytes v) keys) keys (keys ++ v ∷ []) → place ≡ position_or_len (same_bytes v) keys
    → first ≡ not (list_any (same_bytes v) keys) → first ≡ true → AreShort c
    → SplitSoFar (Y ++ (s, c) ∷ []) after (S ++ s ∷ []) (C ++ c ∷ []) (P ++ place ∷ [])
split_first Y keys S C P s c v after place first h i added found is begins short =
    split_step Y keys S C P (s, c) v after place (S ++ s ∷ []) (C ++ c ∷ []) h i added found
    (record {
      all = length-append C (c ∷ []) ∙ ap (λ n. n + 1) h.batch.all ∙ sym (length-append S (s ∷ []));
      short = All-push AreShort C c h.batch.short short;
    })
    (zip_push S C s c h.batch.all
    ∙ ap (λ b. zip S C ++ cond b [] ((s, c) ∷ [])) (sym (not_true first (list_any (same_bytes v) keys) is begins)))
