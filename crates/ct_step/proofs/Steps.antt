-- Steps of the loops, and the result of a step of the log.
use Rattle.std.proofs.Common.{◌≡◌, ℕ, suc, ◌+◌, ◌<◌, refl, sym, ◌∙◌, ap, arith, List, [], ◌∷◌, ◌++◌, length, take, get_or, map}
use Rattle.std.proofs.lemmas.List.{map_push, take_more, length-map, length-take-le}
use Rattle.ct_codec.specs.Leaf.{SignedEntry, index_extension}
use Rattle.ct_codec.specs.Signed.{timestamp_text}
use Rattle.ct_codec.specs.Submitted.{Submitted, entry_of}
use Rattle.ct_tree.specs.Tree.{hash_leaf}
use Rattle.ct_step.specs.Leaves.{indexed_leaf, indexed_leaves, receipts_from, receipt_parts, ReceiptsAreLeaves}
use Rattle.ct_step.specs.declared.receipts.Receipt.{Receipt}

pub receipts-none : (t first : ℕ) → receipts_from t first [] ≡ []
unfolding receipts_from
receipts-none t first = refl

-- the receipt of an entry at an index
abbrev pub receipt_at : ℕ → SignedEntry → ℕ → ℕ × ℕ × List ℕ
receipt_at t e i = (i, t, timestamp_text t e (index_extension i))

pub receipts-push : (t first : ℕ) (E : List SignedEntry) (e : SignedEntry)
    → receipts_from t first (E ++ e ∷ []) ≡ receipts_from t first E ++ receipt_at t e (first + length E) ∷ []
unfolding receipts_from
receipts-push t first [] e = let z : first ≡ first + 0 = omega arith in ap (λ (n : ℕ). receipt_at t e n ∷ []) z
receipts-push t first (x ∷ E) e =
    let z : suc first + length E ≡ first + suc (length E) = omega arith in
    ap (λ (r : List (ℕ × ℕ × List ℕ)). receipt_at t x first ∷ r)
    (receipts-push t (suc first) E e ∙ ap (λ (n : ℕ). receipts_from t (suc first) E ++ receipt_at t e n ∷ []) z)

pub length-indexed : (t first : ℕ) (E : List SignedEntry) → length (indexed_leaves t first E) ≡ length E
unfolding indexed_leaves
length-indexed t first [] = refl
length-indexed t first (x ∷ E) = ap suc (length-indexed t (suc first) E)

pub receipts_are_leaves : ReceiptsAreLeaves
unfolding receipts_from indexed_leaves
receipts_are_leaves t first [] = refl
receipts_are_leaves t first (e ∷ entries) =
    ap (λ (l : List (List ℕ)). indexed_leaf t e first ∷ l) (receipts_are_leaves t (suc first) entries)

seconds : (X : List Receipt) → map (λ r. r.signed.items) X ≡ map (λ q. q.2) (map receipt_parts X)
seconds [] = refl
seconds (r ∷ X) = ap (λ (l : List (List ℕ)). r.signed.items ∷ l) (seconds X)

-- the bytes that are signed for receipts are their leaves
pub signed_leaves : (t first : ℕ) (E : List SignedEntry) (X : List Receipt) → map receipt_parts X ≡ receipts_from t first E
    → map (λ r. r.signed.items) X ≡ indexed_leaves t first E
signed_leaves t first E X e =
    seconds X ∙ ap (λ (l : List (ℕ × ℕ × List ℕ)). map (λ q. q.2) l) e ∙ receipts_are_leaves t first E

hashed : (H : List ℕ → List ℕ) (X : List Receipt)
    → map (λ r. hash_leaf H r.signed.items) X ≡ map (hash_leaf H) (map (λ r. r.signed.items) X)
hashed H [] = refl
hashed H (r ∷ X) = ap (λ (l : List (List ℕ)). hash_leaf H r.signed.items ∷ l) (hashed H X)

pub signed_hashes : (H : List ℕ → List ℕ) (t first : ℕ) (E : List SignedEntry) (X : List Receipt)
    → map receipt_parts X ≡ receipts_from t first E
    → map (λ r. hash_leaf H r.signed.items) X ≡ map (hash_leaf H) (indexed_leaves t first E)
signed_hashes H t first E X e = hashed H X ∙ ap (map (hash_leaf H)) (signed_leaves t first E X e)

pub receipts-step : (t first index i : ℕ) (E : List Submitted) (s : Submitted) (old new : List Receipt) (r : Receipt)
    → i < length E → s ≡ get_or E i s → index ≡ first + i → receipt_parts r ≡ receipt_at t (entry_of s) index → new ≡ old ++ r ∷ []
    → map receipt_parts old ≡ receipts_from t first (map entry_of (take i E))
    → map receipt_parts new ≡ receipts_from t first (map entry_of (take (i + 1) E))
receipts-step t first index i E s old new r h is at p n o =
    let T = map entry_of (take i E) in
    let size : length T ≡ i = length-map (take i E) entry_of ∙ length-take-le i E (omega arith) in
    let more : take (i + 1) E ≡ take i E ++ s ∷ [] = take_more E i s h ∙ ap (λ (x : Submitted). take i E ++ x ∷ []) (sym is) in
    let place : index ≡ first + length T = at ∙ ap (λ n. first + n) (sym size) in
    ap (map receipt_parts) n ∙ map_push receipt_parts old r
    ∙ ap (λ (x : List (ℕ × ℕ × List ℕ)). x ++ receipt_parts r ∷ []) o
    ∙ ap (λ (x : ℕ × ℕ × List ℕ). receipts_from t first T ++ x ∷ []) (p ∙ ap (receipt_at t (entry_of s)) place)
    ∙ sym (receipts-push t first T (entry_of s))
    ∙ ap (receipts_from t first) (sym (ap (map entry_of) more ∙ map_push entry_of (take i E) s))
