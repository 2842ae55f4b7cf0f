-- MTH by chunks.
use Rattle.std.proofs.Common.{◌≡◌, ℕ, zero, suc, ◌+◌, ◌*◌, ◌^◌, ◌<◌, ◌≤◌, refl, sym, ◌∙◌, ap, arith, List, [], ◌∷◌, ◌++◌, length, take, drop, ⊎_elim, length-drop}
use Rattle.std.proofs.lemmas.Bool.{cases_lt}
use Rattle.std.proofs.lemmas.List.{length-take-le, take-append-drop}
use Rattle.std.proofs.Math.Nat.{pow-suc}
use Rattle.ct_tree.proofs.Mth.{mth-one, mth-level, length_level, level_small}
use Rattle.ct_tree.proofs.Peaks.{level-append}
use Rattle.ct_tree.specs.Tree.{mth}
use Rattle.ct_tree.specs.Levels.{level, raised}
use Rattle.ct_tiles.specs.Tiles.{chunk_roots}

power : (j k : ℕ) → k * 2 ^ suc j ≡ (2 * k) * 2 ^ j
power j k = rw (pow-suc 2 j) (omega arith)

length_raised : (H : List ℕ → List ℕ) (j k : ℕ) (A : List (List ℕ)) → length A ≡ k * 2 ^ j → length (raised H j A) ≡ k
unfolding raised
length_raised H zero k A e = e ∙ omega arith
length_raised H (suc j) k A e =
    omega (arith, length_level H (raised H j A), length_raised H j (2 * k) A (e ∙ power j k))

raised_append : (H : List ℕ → List ℕ) (j k : ℕ) (A B : List (List ℕ)) → length A ≡ k * 2 ^ j → raised H j (A ++ B) ≡ raised H j A ++ raised H j B
unfolding raised
raised_append H zero k A B e = refl
raised_append H (suc j) k A B e =
    let f = e ∙ power j k in
    ap (level H) (raised_append H j (2 * k) A B f)
    ∙ level-append H (raised H j A) (raised H j B) (omega (arith, length_raised H j (2 * k) A f))

few_raised : (H : List ℕ → List ℕ) (j k : ℕ) (R : List (List ℕ)) → length R ≤ k * 2 ^ j → length (raised H j R) ≤ k
unfolding raised
few_raised H zero k R h = omega arith
few_raised H (suc j) k R h =
    omega (arith, length_level H (raised H j R), few_raised H j (2 * k) R (rw (← power j k) h))

some_raised : (H : List ℕ → List ℕ) (j : ℕ) (R : List (List ℕ)) → 0 < length R → 0 < length (raised H j R)
unfolding raised
some_raised H zero R h = h
some_raised H (suc j) R h = omega (arith, length_level H (raised H j R), some_raised H j R h)

mth_up : (H : List ℕ → List ℕ) (D : List (List ℕ)) → mth H D ≡ mth H (level H D)
mth_up H D =
    ⊎_elim (λ (more : 1 < length D). mth-level H D more)
    (λ (few : length D ≤ 1). ap (mth H) (sym (level_small H D few)))
    (cases_lt 1 (length D))

pub mth_raised : (H : List ℕ → List ℕ) (j : ℕ) (D : List (List ℕ)) → mth H D ≡ mth H (raised H j D)
unfolding raised
mth_raised H zero D = refl
mth_raised H (suc j) D = mth_raised H j D ∙ mth_up H (raised H j D)

lone : (H : List ℕ → List ℕ) (X : List (List ℕ)) → length X ≡ 1 → X ≡ mth H X ∷ []
lone H [] e = absurd (omega arith)
lone H (x ∷ []) e = ap (λ (y : List ℕ). y ∷ []) (sym (mth-one H x))
lone H (x ∷ y ∷ X) e = absurd (omega arith)

-- a list of at most 2 ^ j hashes, j levels up: its root
raised_small : (H : List ℕ → List ℕ) (j : ℕ) (R : List (List ℕ)) → 0 < length R → length R ≤ 2 ^ j → raised H j R ≡ mth H R ∷ []
raised_small H j R some few =
    let one : length (raised H j R) ≡ 1 = omega (arith, some_raised H j R some, few_raised H j 1 R (omega arith)) in
    lone H (raised H j R) one ∙ ap (λ (y : List ℕ). y ∷ []) (sym (mth_raised H j R))

pub raised_none : (H : List ℕ → List ℕ) (j : ℕ) → raised H j [] ≡ []
unfolding raised level
raised_none H zero = refl
raised_none H (suc j) = ap (level H) (raised_none H j)

pub raised_chunks : (H : List ℕ → List ℕ) (j k : ℕ) (F : List (List ℕ)) → length F ≡ k * 2 ^ j → raised H j F ≡ chunk_roots H (2 ^ j) k F
unfolding chunk_roots
raised_chunks H j zero [] e = raised_none H j
raised_chunks H j zero (x ∷ F) e = absurd (omega arith)
raised_chunks H j (suc k) F e =
    let w = 2 ^ j in
    let size : length F ≡ w + k * w = e ∙ omega arith in
    let one : length (take w F) ≡ w = length-take-le w F (omega arith) in
    ap (raised H j) (sym (take-append-drop w F))
    ∙ raised_append H j 1 (take w F) (drop w F) (omega arith)
    ∙ ap (λ r. r ++ raised H j (drop w F)) (raised_small H j (take w F) (omega (arith, pow_some j)) (omega arith))
    ∙ ap (λ r. mth H (take w F) ∷ r) (raised_chunks H j k (drop w F) (omega (arith, length-drop w F)))
  where
    pow_some : (j : ℕ) → 0 < 2 ^ j
    pow_some zero = omega arith
    pow_some (suc j) = omega (arith, pow-suc 2 j, pow_some j)

-- MTH of full chunks and a rest is MTH of the chunks' roots and the rest's root
pub mth_chunks : (H : List ℕ → List ℕ) (k : ℕ) (F R : List (List ℕ)) → length F ≡ k * 256 → 0 < length R → length R ≤ 256
    → mth H (F ++ R) ≡ mth H (chunk_roots H 256 k F ++ mth H R ∷ [])
mth_chunks H k F R e some few =
    mth_raised H 8 (F ++ R)
    ∙ ap (mth H) (raised_append H 8 k F R e)
    ∙ ap (λ r. mth H (r ++ raised H 8 R)) (raised_chunks H 8 k F e)
    ∙ ap (λ r. mth H (chunk_roots H 256 k F ++ r)) (raised_small H 8 R some few)

pub mth_full_chunks : (H : List ℕ → List ℕ) (k : ℕ) (F : List (List ℕ)) → length F ≡ k * 256
    → mth H F ≡ mth H (chunk_roots H 256 k F)
mth_full_chunks H k F e = mth_raised H 8 F ∙ ap (mth H) (raised_chunks H 8 k F e)
