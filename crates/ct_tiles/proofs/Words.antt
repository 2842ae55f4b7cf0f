-- The hashes of a level, each as MTH of leaves.
use Rattle.std.proofs.Common.{◌≡◌, ℕ, zero, suc, ◌+◌, ◌-◌, ◌*◌, ◌/◌, ◌^◌, ◌<◌, ◌≤◌, refl, sym, ◌∙◌, ap, arith, List, [], ◌∷◌, ◌++◌, length, take, drop, get_or}
use Rattle.std.proofs.lemmas.List.{drop-drop, length-take-le, take-append-drop}
use Rattle.std.proofs.Math.Nat.{pow-suc, mul_comm, mul-le-mul_right, div-div-eq-div-mul}
use Rattle.std.proofs.lemmas.Nat.{pow-add}
use Rattle.ct_tree.proofs.Mth.{mth-one}
use Rattle.ct_tree.specs.Tree.{mth}
use Rattle.ct_tree.specs.Levels.{level, raised}
use Rattle.ct_tiles.specs.Tiles.{chunk_roots, hashes}
use Rattle.ct_tiles.specs.Words.{LevelHasLength, HashIsMth}
use Rattle.ct_tiles.proofs.Chunks.{length-chunk_roots, chunk_roots-append, chunk_roots-add}
use Rattle.ct_tiles.proofs.Roots.{raised_chunks}

get_or-chunk_roots : (H : List ℕ → List ℕ) (w c i : ℕ) (E : List (List ℕ)) → i < c → get_or (chunk_roots H w c E) i [] ≡ mth H (take w (drop (w * i) E))
unfolding chunk_roots
get_or-chunk_roots H w zero i E h = absurd (omega arith)
get_or-chunk_roots H w (suc c) zero E h = let e : w * 0 ≡ 0 = omega arith in rw e refl
get_or-chunk_roots H w (suc c) (suc i) E h =
    let e : w + w * i ≡ w * suc i = omega arith in
    get_or-chunk_roots H w c i (drop w E) (omega arith)
    ∙ ap (λ d. mth H (take w d)) (drop-drop (w * i) w E ∙ ap (λ k. drop k E) e)

raised_raised : (H : List ℕ → List ℕ) (i j : ℕ) (D : List (List ℕ)) → raised H i (raised H j D) ≡ raised H (i + j) D
unfolding raised
raised_raised H zero j D = let e : 0 + j ≡ j = omega arith in rw e refl
raised_raised H (suc i) j D =
    let e : suc i + j ≡ suc (i + j) = omega arith in
    rw e (ap (level H) (raised_raised H i j D))

-- chunks of chunks: c times 256 of 2 ^ j
chunks_of_chunks : (H : List ℕ → List ℕ) (j c : ℕ) (F : List (List ℕ)) → length F ≡ (c * 256) * 2 ^ j
    → chunk_roots H 256 c (chunk_roots H (2 ^ j) (c * 256) F) ≡ chunk_roots H (2 ^ (8 + j)) c F
chunks_of_chunks H j c F e =
    ap (chunk_roots H 256 c) (sym (raised_chunks H j (c * 256) F e))
    ∙ sym (raised_chunks H 8 c (raised H j F) (ap length (raised_chunks H j (c * 256) F e) ∙ length-chunk_roots H (2 ^ j) (c * 256) F))
    ∙ raised_raised H 8 j F
    ∙ raised_chunks H (8 + j) c F (e ∙ eight j c)
  where
    eight : (j c : ℕ) → (c * 256) * 2 ^ j ≡ c * 2 ^ (8 + j)
    eight j c = rw (pow-add 2 8 j) (omega arith)

ones : (H : List ℕ → List ℕ) (D : List (List ℕ)) → chunk_roots H 1 (length D) D ≡ D
unfolding chunk_roots
ones H [] = refl
ones H (x ∷ D) = ap (λ (y : List ℕ). y ∷ chunk_roots H 1 (length D) D) (mth-one H x) ∙ ap (λ r. x ∷ r) (ones H D)

-- the first c chunks of the first 256 * c chunks, if there are m of these
chunks_up : (H : List ℕ → List ℕ) (j c m : ℕ) (D : List (List ℕ)) → c * 256 ≤ m → m * 2 ^ j ≤ length D
    → chunk_roots H 256 c (chunk_roots H (2 ^ j) m D) ≡ chunk_roots H (2 ^ (8 + j)) c D
chunks_up H j c m D few fits =
    let w = 2 ^ j in
    let r = m - c * 256 in
    let split : m ≡ c * 256 + r = omega arith in
    let F = take ((c * 256) * w) D in
    let R = drop ((c * 256) * w) D in
    let room : (c * 256) * w ≤ length D = omega (arith, fits, mul-le-mul_right w few) in
    let size : length F ≡ (c * 256) * w = length-take-le ((c * 256) * w) D room in
    let parts : D ≡ F ++ R = sym (take-append-drop ((c * 256) * w) D) in
    let big : 2 ^ (8 + j) ≡ 256 * w = pow-add 2 8 j in
    let inside : w * (c * 256) ≤ length F = omega (arith, size) in
    let inside_big : 2 ^ (8 + j) * c ≤ length F = rw big (omega (arith, size)) in
    ap (λ n. chunk_roots H 256 c (chunk_roots H w n D)) split
    ∙ ap (chunk_roots H 256 c) (chunk_roots-add H w (c * 256) r D)
    ∙ chunk_roots-append H 256 c (chunk_roots H w (c * 256) D) (chunk_roots H w r (drop (w * (c * 256)) D)) (omega (arith, length-chunk_roots H w (c * 256) D))
    ∙ ap (λ d. chunk_roots H 256 c (chunk_roots H w (c * 256) d)) parts
    ∙ ap (chunk_roots H 256 c) (chunk_roots-append H w (c * 256) F R inside)
    ∙ chunks_of_chunks H j c F size
    ∙ sym (chunk_roots-append H (2 ^ (8 + j)) c F R inside_big)
    ∙ ap (chunk_roots H (2 ^ (8 + j)) c) (sym parts)

pub pow_some : (j : ℕ) → 0 < 2 ^ j
pow_some zero = omega arith
pow_some (suc j) = omega (arith, pow-suc 2 j, pow_some j)

width : (k : ℕ) → 2 ^ (8 * suc k) ≡ 2 ^ (8 + 8 * k)
width k = let e : 8 * suc k ≡ 8 + 8 * k = omega arith in ap (λ n. 2 ^ n) e

hashes_are_chunks : (H : List ℕ → List ℕ) (k : ℕ) (D : List (List ℕ)) → hashes H 256 k D ≡ chunk_roots H (2 ^ (8 * k)) (length D / 2 ^ (8 * k)) D
unfolding hashes
hashes_are_chunks H zero D =
    let whole : length D ≡ length D / 1 = omega arith in
    sym (ones H D) ∙ ap (λ n. chunk_roots H 1 n D) whole
hashes_are_chunks H (suc k) D =
    let w = 2 ^ (8 * k) in
    let m = length D / w in
    let known = hashes_are_chunks H k D in
    let count : length (hashes H 256 k D) / 256 ≡ m / 256 = ap (λ x. length x / 256) known ∙ ap (λ n. n / 256) (length-chunk_roots H w m D) in
    let fits : m * w ≤ length D = omega (arith, pow_some (8 * k), mul_comm m w) in
    let total : m / 256 ≡ length D / 2 ^ (8 + 8 * k) =
    div-div-eq-div-mul (length D) w 256 ∙ ap (λ n. length D / n) (mul_comm w 256 ∙ sym (pow-add 2 8 (8 * k))) in
    ap (λ n. chunk_roots H 256 n (hashes H 256 k D)) count
    ∙ ap (chunk_roots H 256 (m / 256)) known
    ∙ chunks_up H (8 * k) (m / 256) m D (omega arith) fits
    ∙ ap (λ n. chunk_roots H (2 ^ (8 + 8 * k)) n D) total
    ∙ ap (λ v. chunk_roots H v (length D / v) D) (sym (width k))

pub powers : (k : ℕ) → 2 ^ (8 * k) ≡ 256 ^ k
powers zero = refl
powers (suc k) = width k ∙ pow-add 2 8 (8 * k) ∙ ap (λ n. 256 * n) (powers k) ∙ mul_comm 256 (256 ^ k) ∙ sym (pow-suc 256 k)

pub level_has_length : LevelHasLength
level_has_length H k D =
    ap length (hashes_are_chunks H k D) ∙ length-chunk_roots H (2 ^ (8 * k)) (length D / 2 ^ (8 * k)) D ∙ ap (λ n. length D / n) (powers k)

pub hash_is_mth : HashIsMth
hash_is_mth H k i D h =
    ap (λ x. get_or x i []) (hashes_are_chunks H k D)
    ∙ get_or-chunk_roots H (2 ^ (8 * k)) (length D / 2 ^ (8 * k)) i D
    (omega (arith, h, ap length (hashes_are_chunks H k D) ∙ length-chunk_roots H (2 ^ (8 * k)) (length D / 2 ^ (8 * k)) D))
    ∙ ap (λ n. mth H (take n (drop (n * i) D))) (powers k)
