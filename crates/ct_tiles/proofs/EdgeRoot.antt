-- The root of all leaves from the right edge.
use Rattle.std.proofs.Common.{◌≡◌, ℕ, ◌+◌, ◌*◌, ◌/◌, ◌^◌, ◌<◌, ◌≤◌, refl, sym, ◌∙◌, ap, arith, List, [], ◌∷◌, ◌++◌, length, take, get_or, append_assoc, add-one, length-drop, length-append}
use Rattle.std.proofs.lemmas.List.{append-nil, length-take-le, take-append-drop, nil_from_length}
use Rattle.ct_tree.specs.Tree.{mth}
use Rattle.ct_tiles.specs.Tiles.{chunk_roots, up, behind, hashes, lone_root}
use Rattle.ct_tiles.specs.Edge.{IsEdge}
use Rattle.ct_tiles.proofs.Chunks.{chunk_roots-append, length-hashes, hashes-zero, edge-at}
use Rattle.ct_tiles.proofs.Roots.{mth_chunks, mth_full_chunks}

-- full chunks F and a rest R that is no longer than one
joined_root : (H : List ℕ → List ℕ) (k : ℕ) (F R : List (List ℕ)) → length F ≡ k * 256 → length R ≤ 256
    → mth H (F ++ R) ≡ mth H (chunk_roots H 256 k F ++ lone_root H R)
joined_root H k F [] e few =
    ap (mth H) (append-nil F) ∙ mth_full_chunks H k F e ∙ ap (mth H) (sym (append-nil (chunk_roots H 256 k F)))
joined_root H k F (x ∷ R) e few = mth_chunks H k F (x ∷ R) e (omega arith) few

pub root_step : (H : List ℕ → List ℕ) (E c : List (List ℕ)) → length c ≤ 1
    → mth H (E ++ c) ≡ mth H (up H 256 E ++ lone_root H (behind 256 E ++ c))
root_step H E c h =
    let q = length E / 256 in
    let F = take (256 * q) E in
    let size : length F ≡ q * 256 = length-take-le (256 * q) E (omega arith) ∙ omega arith in
    let few : length (behind 256 E ++ c) ≤ 256 = omega (arith, length-append (behind 256 E) c, length-drop (256 * q) E) in
    let parts : E ≡ F ++ behind 256 E = sym (take-append-drop (256 * q) E) in
    let roots : chunk_roots H 256 q F ≡ up H 256 E =
    sym (chunk_roots-append H 256 q F (behind 256 E) (omega arith)) ∙ ap (chunk_roots H 256 q) (sym parts) in
    ap (λ x. mth H (x ++ c)) parts
    ∙ ap (mth H) (append_assoc F (behind 256 E) c)
    ∙ joined_root H q F (behind 256 E ++ c) size few
    ∙ ap (λ r. mth H (r ++ lone_root H (behind 256 E ++ c))) roots

pub hashes-more : (H : List ℕ → List ℕ) (level : ℕ) (D : List (List ℕ)) → hashes H 256 (level + 1) D ≡ up H 256 (hashes H 256 level D)
unfolding hashes
hashes-more H level D = rw add-one refl

pub length-lone_root : (H : List ℕ → List ℕ) (R : List (List ℕ)) → length (lone_root H R) ≤ 1
length-lone_root H [] = omega arith
length-lone_root H (x ∷ R) = omega arith

-- fewer than 2 ^ 64 leaves have no hash at level 8
one_level : (H : List ℕ → List ℕ) (level b : ℕ) (D : List (List ℕ)) → length (hashes H 256 level D) < 256 * b → length (hashes H 256 (level + 1) D) < b
one_level H level b D h = omega (arith, length-hashes H level D)

top : (H : List ℕ → List ℕ) (D : List (List ℕ)) → length D < 2 ^ 64 → length (hashes H 256 8 D) < 1
top H D h =
    one_level H 7 1 D (one_level H 6 (256 ^ 1) D (one_level H 5 (256 ^ 2) D (one_level H 4 (256 ^ 3) D
    (one_level H 3 (256 ^ 4) D (one_level H 2 (256 ^ 5) D (one_level H 1 (256 ^ 6) D (one_level H 0 (256 ^ 7) D
    (rw hashes-zero h))))))))

pub root_at_top : (H : List ℕ → List ℕ) (D c : List (List ℕ)) → length D < 2 ^ 64 → mth H D ≡ mth H (hashes H 256 8 D ++ c) → mth H c ≡ mth H D
root_at_top H D c h e =
    let none : hashes H 256 8 D ≡ [] = nil_from_length (hashes H 256 8 D) (omega (arith, top H D h)) in
    sym (e ∙ ap (λ x. mth H (x ++ c)) none)

pub starts_alone : (H : List ℕ → List ℕ) (D c : List (List ℕ)) → c ≡ [] → mth H D ≡ mth H (hashes H 256 0 D ++ c)
starts_alone H D c e = rw (e, hashes-zero H D, append-nil D) refl

pub carried_on : (H : List ℕ → List ℕ) (level : ℕ) (D : List (List ℕ)) (seen : ℕ × List (List (List ℕ))) → IsEdge H seen D → level < 8
    → (tile c next : List (List ℕ)) → mth H D ≡ mth H (hashes H 256 level D ++ c) → length c ≤ 1
    → tile ≡ get_or seen.1 level [] → next ≡ lone_root H (tile ++ c) → mth H D ≡ mth H (hashes H 256 (level + 1) D ++ next)
carried_on H level D seen e h tile c next same few t n =
    let here : tile ≡ behind 256 (hashes H 256 level D) = t ∙ ap (λ s. get_or s level []) e.tiles ∙ edge-at H 8 level D h in
    same ∙ root_step H (hashes H 256 level D) c few
    ∙ ap (λ x. mth H (up H 256 (hashes H 256 level D) ++ x)) (ap (λ x. lone_root H (x ++ c)) (sym here) ∙ sym n)
    ∙ ap (λ x. mth H (x ++ next)) (sym (hashes-more H level D))
