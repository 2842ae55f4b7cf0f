-- The hashed bytes of entries with the same identity, and of an entry in range.
use Rattle.std.proofs.Common.{◌≡◌, ◌++◌, ℕ, List, [], ◌∷◌, take, drop, length, refl, sym, ap, ◌∙◌, arith}
use Rattle.std.proofs.Math.Seq.{take-append_seam, drop-append_seam}
use Rattle.ct_codec.specs.Bytes.{num, vec}
use Rattle.ct_codec.specs.Leaf.{SignedEntry, certificate, precertificate, IsEntry, entry_text, type_of, key_hash_of, signed_of}
use Rattle.ct_codec.specs.Hashed.{hashed_of}
use Rattle.ct_codec.proofs.Refusals.{length-num}
use Rattle.ct_codec.proofs.Apart.{split_equal, num_split}

-- entries with the same text have the same hash, whatever their lengths
pub one_hash : (d e : SignedEntry) → entry_text d ≡ entry_text e → hashed_of d ≡ hashed_of e
one_hash (certificate c) (certificate f) same =
    let rest = (split_equal (num 2 0) (num 2 0) (vec 3 c) (vec 3 f) refl same).1 in
    let one : c ≡ f = (split_equal (num 3 (length c)) (num 3 (length f)) c f (length-num 3 (length c) ∙ sym (length-num 3 (length f))) rest).1 in
    ap (λ (b : List ℕ). b ∷ []) one
one_hash (precertificate k c) (precertificate l f) same =
    let rest = (split_equal (num 2 1) (num 2 1) (k ++ vec 3 c) (l ++ vec 3 f) refl same).1 in
    ap (λ (b : List ℕ). take 32 b ∷ drop 3 (drop 32 b) ∷ []) rest
one_hash (certificate c) (precertificate l f) same =
    let types = (num_split 2 0 1 (vec 3 c) (l ++ vec 3 f) (omega arith) (omega arith) same).0 in
    absurd (omega (arith, types))
one_hash (precertificate k c) (certificate f) same =
    let types = (num_split 2 1 0 (k ++ vec 3 c) (vec 3 f) (omega arith) (omega arith) same).0 in
    absurd (omega (arith, types))

take_front : (n : ℕ) (a b : List ℕ) → length a ≡ n → take n (a ++ b) ≡ a
take_front n a b e = ap (λ m. take m (a ++ b)) (sym e) ∙ take-append_seam a b

drop_front : (n : ℕ) (a b : List ℕ) → length a ≡ n → drop n (a ++ b) ≡ b
drop_front n a b e = ap (λ m. drop m (a ++ b)) (sym e) ∙ drop-append_seam a b

-- the hashed bytes of an entry in range
pub hashed_certificate : (e : SignedEntry) (c : List ℕ) → e ≡ certificate c → hashed_of e ≡ signed_of e ∷ []
hashed_certificate (certificate d) c same = refl
hashed_certificate (precertificate k d) c same = let types = ap type_of same in absurd (omega (arith, types))

pub hashed_precertificate : (e : SignedEntry) (k c : List ℕ) → IsEntry e → e ≡ precertificate k c → hashed_of e ≡ k ∷ signed_of e ∷ []
hashed_precertificate (certificate d) k c fine same = let types = ap type_of same in absurd (omega (arith, types))
hashed_precertificate (precertificate l d) k c fine same =
    let key : take 32 (l ++ vec 3 d) ≡ k = take_front 32 l (vec 3 d) fine.0 ∙ ap key_hash_of same in
    let tbs : drop 3 (drop 32 (l ++ vec 3 d)) ≡ d = ap (drop 3) (drop_front 32 l (vec 3 d) fine.0)
    ∙ drop_front 3 (num 3 (length d)) d (length-num 3 (length d)) in
    rw (key, tbs) refl
