-- The bytes of a state.
use Rattle.std.proofs.Common.{◌≡◌, ◌<◌, ℕ, Bool, true, false, nat_eq, List, [], ◌∷◌, ◌++◌, length, ap, arith, length-append, true≢false, sym, ◌∙◌}
use Rattle.ct_codec.specs.Bytes.{num}
use Rattle.ct_codec.proofs.Refusals.{length-num}
use Rattle.ct_tree.specs.declared.head.Head.{Head}
use Rattle.libwagtenib.specs.Guard.{IsStateOf, IsOfNoHead}

-- a state has 50 bytes
pub length-state : (head : Head) (bytes : List ℕ) → IsStateOf head bytes → length bytes ≡ 50
length-state head bytes s =
    omega (
      arith,
      ap length s.text,
      s.root,
      length-num 8 head.timestamp,
      length-num 8 head.tree_size,
      length-append (num 8 head.timestamp) (num 8 head.tree_size ++ head.root),
      length-append (num 8 head.tree_size) head.root,
    )

-- bytes that end before the root does are no state
pub too_short : (bytes one two three : List ℕ) (v k t : ℕ) → bytes ≡ v ∷ one → one ≡ k ∷ two → two ≡ num 8 t ++ three → length three < 40 → IsOfNoHead bytes
too_short bytes one two three v k t a b c short = λ head s.
    absurd (omega (arith, length-state head bytes s, ap length a, ap length b, ap length c, length-append (num 8 t) three, length-num 8 t, short))

-- bytes after the root are no state
pub too_long : (bytes one two three four root rest : List ℕ) (v k t n : ℕ) → bytes ≡ v ∷ one → one ≡ k ∷ two → two ≡ num 8 t ++ three → three ≡ num 8 n ++ four
    → length root ≡ 32 → four ≡ root ++ rest → 0 < length rest → IsOfNoHead bytes
too_long bytes one two three four root rest v k t n a b c d r e more = λ head s.
    absurd (omega (
      arith,
      length-state head bytes s,
      ap length a,
      ap length b,
      ap length c,
      ap length d,
      ap length e,
      length-append (num 8 t) three,
      length-num 8 t,
      length-append (num 8 n) four,
      length-num 8 n,
      length-append root rest,
      r,
      more,
    ))

-- some bytes are left if they aren't none
pub some_left : (rest : List ℕ) → nat_eq (length rest) 0 ≡ false → 0 < length rest
some_left [] e = absurd (true≢false e)
some_left (b ∷ rest) e = omega arith

-- a state begins with the version 0 and the signature type 1
pub begins : (bytes one two : List ℕ) (v k : ℕ) → bytes ≡ v ∷ one → one ≡ k ∷ two → (head : Head) → IsStateOf head bytes → (v ≡ 0) × (k ≡ 1)
begins bytes one two v k a b head s =
    let text = s.text in
    (cc, cc)
