-- The parts into which a level's hashes are cut, and their sizes.
use Rattle.std.proofs.Common.{◌≡◌, ℕ, zero, suc, ◌/◌, ◌<◌, ◌≤◌, refl, ap, arith, ltb-true, ltb-false, List, length, take}
use Rattle.std.specs.Prelude.{true, false, nat_lt}
use Rattle.std.proofs.lemmas.List.{length-take-le, take_all}
use Rattle.ct_tiles.specs.Tiles.{hashes}
use Rattle.ct_tiles.proofs.Chunks.{length-chunk_roots}

pub cut_width : (xs : List (List ℕ)) → 0 < length xs → (1 ≤ length (take 256 xs)) × (length (take 256 xs) ≤ 256) × (length (take 256 xs) ≤ length xs)
cut_width xs b =
    elim (nat_lt (length xs) 256) as (λ t. nat_lt (length xs) 256 ≡ t → (1 ≤ length (take 256 xs)) × (length (take 256 xs) ≤ 256) × (length (take 256 xs) ≤ length xs)) [
      | true ↦ λ q.
          let l : length xs < 256 = ltb-true (length xs) 256 q in
          let e : length (take 256 xs) ≡ length xs = ap (λ (v : List (List ℕ)). length v) (take_all 256 xs (omega (arith, l))) in
          (omega (arith, e, b), omega (arith, e, l), omega (arith, e))
      | false ↦ λ q.
          let l : 256 ≤ length xs = ltb-false (length xs) 256 q in
          let e : length (take 256 xs) ≡ 256 = length-take-le 256 xs l in
          (omega (arith, e), omega (arith, e), omega (arith, e, l))
    ] refl

pub hashes_short : (H : List ℕ → List ℕ) (l : ℕ) (D : List (List ℕ)) → length (hashes H 256 l D) ≤ length D
unfolding hashes
hashes_short H zero D = omega arith
hashes_short H (suc l) D =
    let E = hashes H 256 l D in
    omega (arith, length-chunk_roots H 256 (length E / 256) E, hashes_short H l D)
