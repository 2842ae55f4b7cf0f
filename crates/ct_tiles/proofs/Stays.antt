-- Tiles that were written do not change.
use Rattle.std.proofs.Common.{◌≡◌, ℕ, ◌+◌, ◌*◌, ◌/◌, ◌≤◌, ◌∙◌, ap, arith, List, ◌++◌, length, take, drop, length-drop}
use Rattle.std.proofs.lemmas.List.{take-append-le, drop-append-le, drop-drop}
use Rattle.ct_tiles.specs.Tiles.{hashes}
use Rattle.ct_tiles.specs.Laws.{TilesStay, RowIsTiles, RowBeginsBefore}
use Rattle.ct_tiles.proofs.Chunks.{added, hashes-append}

within : (E X : List (List ℕ)) (first width : ℕ) → first + width ≤ length E → take width (drop first (E ++ X)) ≡ take width (drop first E)
within E X first width h =
    ap (take width) (drop-append-le first E X (omega arith))
    ∙ take-append-le width (drop first E) X (omega (arith, length-drop first E))

pub tiles_stay : TilesStay
tiles_stay H level index width D B h =
    ap (λ E. take width (drop (256 * index) E)) (hashes-append H level D B)
    ∙ within (hashes H 256 level D) (added H level D B) (256 * index) width h

pub row_is_tiles : RowIsTiles
row_is_tiles H level i D B =
    let first = length (hashes H 256 level D) / 256 in
    let e : 256 * first + 256 * i ≡ 256 * (first + i) = omega arith in
    ap (take 256) (drop-drop (256 * i) (256 * first) (hashes H 256 level (D ++ B)) ∙ ap (λ k. drop k (hashes H 256 level (D ++ B))) e)

pub row_begins_before : RowBeginsBefore
row_begins_before H level D B = omega arith
