-- Signed texts of different things are different.
use Rattle.std.proofs.Common.{◌≡◌, ◌<◌, ◌^◌, ℕ, List, ◌++◌, refl, arith}
use Rattle.ct_codec.specs.Bytes.{num}
use Rattle.ct_codec.specs.Leaf.{SignedEntry}
use Rattle.ct_codec.specs.Signed.{tree_head_text, timestamp_text}
use Rattle.ct_codec.specs.Laws.{SignedTimestampsAreLeaves, SignedTextsStandApart}
use Rattle.ct_codec.proofs.Apart.{num_split}

pub signed_timestamps_are_leaves : SignedTimestampsAreLeaves
signed_timestamps_are_leaves t e x = refl

heads_apart :
    (t u n m : ℕ) (r s : List ℕ) → t < 2 ^ 64 → u < 2 ^ 64 → n < 2 ^ 64 → m < 2 ^ 64 → tree_head_text t n r ≡ tree_head_text u m s
    → (t ≡ u) × (n ≡ m) × (r ≡ s)
heads_apart t u n m r s ht hu hn hm same =
    let tail : num 8 t ++ (num 8 n ++ r) ≡ num 8 u ++ (num 8 m ++ s) = cc in
    let time = num_split 8 t u (num 8 n ++ r) (num 8 m ++ s) ht hu tail in
    let size = num_split 8 n m r s hn hm time.1 in
    (time.0, size.0, size.1)

kinds_apart : (t n u : ℕ) (r : List ℕ) (e : SignedEntry) (x : List ℕ) → tree_head_text t n r ≡ timestamp_text u e x → ⊥
kinds_apart t n u r e x same =
    let one : ℕ = 1 in
    let none : ℕ = 0 in
    let second : one ≡ none = cc in
    absurd (omega (arith, second))

pub signed_texts_stand_apart : SignedTextsStandApart
signed_texts_stand_apart = record { heads = heads_apart; kinds = kinds_apart }
