-- The one index that extensions can name and nothing else.
use Rattle.std.proofs.Common.{◌≡◌, ◌<◌, ◌^◌, ◌-◌, ◌∙◌, ℕ, List, ◌++◌, length, drop, sym, ap, arith, length-append}
use Rattle.std.proofs.Math.Seq.{drop-append_seam}
use Rattle.ct_codec.specs.Bytes.{num}
use Rattle.ct_codec.specs.Leaf.{index_extension}
use Rattle.ct_codec.proofs.Refusals.{length-num}
use Rattle.ct_codec.proofs.Apart.{num_one}

pub eight : (i : ℕ) → length (index_extension i) ≡ 8
eight i =
    let parts = length-append (num 2 (length (num 5 i))) (num 5 i) in
    let size = length-num 2 (length (num 5 i)) in
    let index = length-num 5 i in
    omega (arith, parts, size, index)

last_five : (i : ℕ) → drop 3 (index_extension i) ≡ num 5 i
last_five i =
    let front = num 2 (length (num 5 i)) in
    ap (λ n. drop n (front ++ num 5 i)) (sym (length-num 2 (length (num 5 i)))) ∙ drop-append_seam front (num 5 i)

pub only_index : (ext b : List ℕ) (n i : ℕ) → n < 2 ^ 40 → num 5 n ≡ b → b ≡ drop (length ext - 5) ext → i < 2 ^ 40 → ext ≡ index_extension i → n ≡ i
only_index ext b n i h e f k g =
    let size : length ext ≡ 8 = ap length g ∙ eight i in
    let behind : length ext - 5 ≡ 3 = omega (arith, size) in
    num_one 5 n i h k (e ∙ f ∙ ap (λ m. drop m ext) behind ∙ ap (drop 3) g ∙ last_five i)
