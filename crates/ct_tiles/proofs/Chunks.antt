-- The roots of chunks, and the changes when leaves are added.
use Rattle.std.proofs.Common.{◌≡◌, ℕ, zero, suc, ◌+◌, ◌-◌, ◌*◌, ◌/◌, ◌<◌, ◌≤◌, refl, sym, ◌∙◌, ap, arith, List, [], ◌∷◌, ◌++◌, length, take, drop, get_or}
use Rattle.std.proofs.Common.{length-drop, length-append, add-one, ⊎_elim}
use Rattle.std.proofs.lemmas.Bool.{cases_lt}
use Rattle.std.proofs.lemmas.List.{take-append-le, drop-append-le, drop-drop, length_push, get_or_append_left, get_or_at}
use Rattle.ct_tree.specs.Tree.{mth}
use Rattle.ct_tiles.specs.Tiles.{chunk_roots, up, behind, hashes, row, rows, edge}

-- one more chunk
pub chunk_roots-more : (H : List ℕ → List ℕ) (w i : ℕ) (E : List (List ℕ))
    → chunk_roots H w (suc i) E ≡ chunk_roots H w i E ++ mth H (take w (drop (w * i) E)) ∷ []
unfolding chunk_roots
chunk_roots-more H w zero E = let e : w * 0 ≡ 0 = omega arith in rw e refl
chunk_roots-more H w (suc i) E =
    let e : w + w * i ≡ w * suc i = omega arith in
    ap (λ r. mth H (take w E) ∷ r) (chunk_roots-more H w i (drop w E)
    ∙ ap (λ d. chunk_roots H w i (drop w E) ++ mth H (take w d) ∷ []) (drop-drop (w * i) w E ∙ ap (λ k. drop k E) e))

pub length-chunk_roots : (H : List ℕ → List ℕ) (w c : ℕ) (E : List (List ℕ)) → length (chunk_roots H w c E) ≡ c
unfolding chunk_roots
length-chunk_roots H w zero E = refl
length-chunk_roots H w (suc c) E = ap suc (length-chunk_roots H w c (drop w E))

-- chunks that end within the list don't change when it grows
pub chunk_roots-append : (H : List ℕ → List ℕ) (w c : ℕ) (E X : List (List ℕ)) → w * c ≤ length E
    → chunk_roots H w c (E ++ X) ≡ chunk_roots H w c E
unfolding chunk_roots
chunk_roots-append H w zero E X h = refl
chunk_roots-append H w (suc c) E X h =
    let e : w * suc c ≡ w + w * c = omega arith in
    let one : w ≤ length E = omega (arith, e) in
    let rest : w * c ≤ length (drop w E) = omega (arith, e, length-drop w E) in
    ap (λ t. mth H t ∷ chunk_roots H w c (drop w (E ++ X))) (take-append-le w E X one)
    ∙ ap (λ d. mth H (take w E) ∷ chunk_roots H w c d) (drop-append-le w E X one)
    ∙ ap (λ r. mth H (take w E) ∷ r) (chunk_roots-append H w c (drop w E) X rest)

pub chunk_roots-add : (H : List ℕ → List ℕ) (w c d : ℕ) (E : List (List ℕ))
    → chunk_roots H w (c + d) E ≡ chunk_roots H w c E ++ chunk_roots H w d (drop (w * c) E)
unfolding chunk_roots
chunk_roots-add H w zero d E =
    let e : w * 0 ≡ 0 = omega arith in
    let z : 0 + d ≡ d = omega arith in
    rw (e, z) refl
chunk_roots-add H w (suc c) d E =
    let e : w + w * c ≡ w * suc c = omega arith in
    let z : suc c + d ≡ suc (c + d) = omega arith in
    ap (λ n. chunk_roots H w n E) z
    ∙ ap (λ r. mth H (take w E) ∷ r) (chunk_roots-add H w c d (drop w E)
    ∙ ap (λ s. chunk_roots H w c (drop w E) ++ chunk_roots H w d s) (drop-drop (w * c) w E ∙ ap (λ k. drop k E) e))

-- ---- a level that grows
quotient : (n m : ℕ) → (n + m) / 256 ≡ n / 256 + (n - 256 * (n / 256) + m) / 256
quotient n m = omega arith

length-behind : (E X : List (List ℕ)) → length (behind 256 E ++ X) ≡ length E - 256 * (length E / 256) + length X
length-behind E X = length-append (behind 256 E) X ∙ ap (λ n. n + length X) (length-drop (256 * (length E / 256)) E)

-- the chunks of the longer list: those of the list, and those that begin after them
count : (E X : List (List ℕ)) → length (E ++ X) / 256 ≡ length E / 256 + length (behind 256 E ++ X) / 256
count E X = rw (length-append E X, length-behind E X) (quotient (length E) (length X))

full_within : (E : List (List ℕ)) → 256 * (length E / 256) ≤ length E
full_within E = omega arith

pub row-append : (E X : List (List ℕ)) → drop (256 * (length E / 256)) (E ++ X) ≡ behind 256 E ++ X
row-append E X = drop-append-le (256 * (length E / 256)) E X (full_within E)

pub up-append : (H : List ℕ → List ℕ) (E X : List (List ℕ)) → up H 256 (E ++ X) ≡ up H 256 E ++ up H 256 (behind 256 E ++ X)
up-append H E X =
    ap (λ n. chunk_roots H 256 n (E ++ X)) (count E X)
    ∙ chunk_roots-add H 256 (length E / 256) (length (behind 256 E ++ X) / 256) (E ++ X)
    ∙ ap (λ r. r ++ chunk_roots H 256 (length (behind 256 E ++ X) / 256) (drop (256 * (length E / 256)) (E ++ X)))
    (chunk_roots-append H 256 (length E / 256) E X (full_within E))
    ∙ ap (λ s. up H 256 E ++ chunk_roots H 256 (length (behind 256 E ++ X) / 256) s) (row-append E X)

pub behind-append : (E X : List (List ℕ)) → behind 256 (E ++ X) ≡ behind 256 (behind 256 E ++ X)
behind-append E X =
    let q = length E / 256 in
    let d = length (behind 256 E ++ X) / 256 in
    let e : 256 * (q + d) ≡ 256 * q + 256 * d = omega arith in
    ap (λ n. drop (256 * n) (E ++ X)) (count E X)
    ∙ ap (λ k. drop k (E ++ X)) e
    ∙ sym (drop-drop (256 * d) (256 * q) (E ++ X))
    ∙ ap (drop (256 * d)) (row-append E X)

-- ---- all levels
-- the hashes that the leaves B add to a level
unfoldable pub added : (List ℕ → List ℕ) → ℕ → List (List ℕ) → List (List ℕ) → List (List ℕ)
added H zero D B = B
added H (suc level) D B = up H 256 (behind 256 (hashes H 256 level D) ++ added H level D B)

pub hashes-append : (H : List ℕ → List ℕ) (level : ℕ) (D B : List (List ℕ)) → hashes H 256 level (D ++ B) ≡ hashes H 256 level D ++ added H level D B
unfolding hashes added
hashes-append H zero D B = refl
hashes-append H (suc level) D B =
    ap (up H 256) (hashes-append H level D B) ∙ up-append H (hashes H 256 level D) (added H level D B)

pub row-is : (H : List ℕ → List ℕ) (level : ℕ) (D B : List (List ℕ)) → (row H 256 level D B).1 ≡ behind 256 (hashes H 256 level D) ++ added H level D B
row-is H level D B =
    ap (drop (256 * (length (hashes H 256 level D) / 256))) (hashes-append H level D B)
    ∙ row-append (hashes H 256 level D) (added H level D B)

pub behind-is : (H : List ℕ → List ℕ) (level : ℕ) (D B : List (List ℕ))
    → behind 256 (hashes H 256 level (D ++ B)) ≡ behind 256 (behind 256 (hashes H 256 level D) ++ added H level D B)
behind-is H level D B =
    ap (behind 256) (hashes-append H level D B) ∙ behind-append (hashes H 256 level D) (added H level D B)

pub added-zero : (H : List ℕ → List ℕ) (D B : List (List ℕ)) → added H 0 D B ≡ B
unfolding added
added-zero H D B = refl

-- ---- the edge and the rows, level by level
pub length-edge : (H : List ℕ → List ℕ) (levels : ℕ) (D : List (List ℕ)) → length (edge H 256 levels D) ≡ levels
unfolding edge
length-edge H zero D = refl
length-edge H (suc n) D = omega (arith, length_push (edge H 256 n D) (behind 256 (hashes H 256 n D)), length-edge H n D)

pub edge-at : (H : List ℕ → List ℕ) (levels k : ℕ) (D : List (List ℕ)) → k < levels
    → get_or (edge H 256 levels D) k [] ≡ behind 256 (hashes H 256 k D)
unfolding edge
edge-at H zero k D h = absurd (omega arith)
edge-at H (suc n) k D h =
    ⊎_elim
    (λ (below : k < n). get_or_append_left (edge H 256 n D) (behind 256 (hashes H 256 n D) ∷ []) [] k (omega (arith, length-edge H n D)) ∙ edge-at H n k D below)
    (λ (here : n ≤ k). let e : k ≡ n = omega arith in
    rw e (get_or_at (edge H 256 n D) (behind 256 (hashes H 256 n D)) [] [] n (length-edge H n D)))
    (cases_lt k n)

pub edge-more : (H : List ℕ → List ℕ) (level : ℕ) (D : List (List ℕ)) → edge H 256 (level + 1) D ≡ edge H 256 level D ++ behind 256 (hashes H 256 level D) ∷ []
unfolding edge
edge-more H level D = rw add-one refl

pub rows-more : (H : List ℕ → List ℕ) (level : ℕ) (D B : List (List ℕ)) → rows H 256 (level + 1) D B ≡ rows H 256 level D B ++ row H 256 level D B ∷ []
unfolding rows
rows-more H level D B = rw add-one refl

pub rows-zero : (H : List ℕ → List ℕ) (D B : List (List ℕ)) → rows H 256 0 D B ≡ []
unfolding rows
rows-zero H D B = refl

pub edge-zero : (H : List ℕ → List ℕ) (D : List (List ℕ)) → edge H 256 0 D ≡ []
unfolding edge
edge-zero H D = refl

pub hashes-zero : (H : List ℕ → List ℕ) (D : List (List ℕ)) → hashes H 256 0 D ≡ D
unfolding hashes
hashes-zero H D = refl

pub length-hashes : (H : List ℕ → List ℕ) (level : ℕ) (D : List (List ℕ)) → length (hashes H 256 (level + 1) D) ≡ length (hashes H 256 level D) / 256
unfolding hashes
length-hashes H level D = rw add-one (length-chunk_roots H 256 (length (hashes H 256 level D) / 256) (hashes H 256 level D))

pub added-next : (H : List ℕ → List ℕ) (level : ℕ) (D B : List (List ℕ)) → added H (level + 1) D B ≡ up H 256 (behind 256 (hashes H 256 level D) ++ added H level D B)
unfolding added
added-next H level D B = rw add-one refl

pub length-rows : (H : List ℕ → List ℕ) (levels : ℕ) (D B : List (List ℕ)) → length (rows H 256 levels D B) ≡ levels
unfolding rows
length-rows H zero D B = refl
length-rows H (suc n) D B = omega (arith, length_push (rows H 256 n D B) (row H 256 n D B), length-rows H n D B)

pub rows-at : (H : List ℕ → List ℕ) (levels k : ℕ) (D B : List (List ℕ)) → k < levels → get_or (rows H 256 levels D B) k (0, []) ≡ row H 256 k D B
unfolding rows
rows-at H zero k D B h = absurd (omega arith)
rows-at H (suc n) k D B h =
    ⊎_elim
    (λ (below : k < n). get_or_append_left (rows H 256 n D B) (row H 256 n D B ∷ []) (0, []) k (omega (arith, length-rows H n D B)) ∙ rows-at H n k D B below)
    (λ (here : n ≤ k). let e : k ≡ n = omega arith in
    rw e (get_or_at (rows H 256 n D B) (row H 256 n D B) [] (0, []) n (length-rows H n D B)))
    (cases_lt k n)
