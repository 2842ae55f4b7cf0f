-- Steps of the loops.
use Rattle.std.proofs.Common.{◌≡◌, ℕ, zero, suc, ◌+◌, ◌-◌, ◌*◌, ◌/◌, ◌<◌, refl, sym, ◌∙◌, ap, arith, List, [], ◌∷◌, ◌++◌, length, take, drop, get_or, map, Vec, Global, add-one}
use Rattle.std.proofs.lemmas.List.{map_push, take_rest, take_all}
use Rattle.std.proofs.Common.{◌⊎◌, inl, inr, length-drop}
use Rattle.ct_tree.specs.Tree.{mth}
use Rattle.ct_tiles.specs.Tiles.{chunk_roots, up, behind, hashes, row, rows, edge}
use Rattle.ct_tiles.specs.Edge.{IsEdge}
use Rattle.ct_tiles.proofs.Chunks.{added, chunk_roots-more, row-is, behind-is, edge-at, edge-more, rows-more, added-next}

pub roots_none : (H : List ℕ → List ℕ) (E roots : List (List ℕ)) → roots ≡ [] → roots ≡ chunk_roots H 256 0 E
unfolding chunk_roots
roots_none H E roots e = e

pub roots_more : (H : List ℕ → List ℕ) (E roots more tile : List (List ℕ)) (root : List ℕ) (i : ℕ)
    → roots ≡ chunk_roots H 256 i E → tile ≡ take 256 (drop (256 * i) E) → root ≡ mth H tile → more ≡ roots ++ root ∷ []
    → more ≡ chunk_roots H 256 (i + 1) E
roots_more H E roots more tile root i e t r m =
    m ∙ rw (e, r, t) (sym (chunk_roots-more H 256 i E)) ∙ ap (λ n. chunk_roots H 256 n E) (sym (add-one i))

module _ (H : List ℕ → List ℕ) (level : ℕ) (D B : List (List ℕ)) (seen : ℕ × List (List (List ℕ))) (e : IsEdge H seen D) (h : level < 8) where
  pub hashes_here : (tile fresh joined : List (List ℕ)) → tile ≡ get_or seen.1 level [] → fresh ≡ added H level D B → joined ≡ tile ++ fresh
      → joined ≡ behind 256 (hashes H 256 level D) ++ added H level D B
  hashes_here tile fresh joined t f j =
      j ∙ ap (λ x. x ++ fresh) (t ∙ ap (λ s. get_or s level []) e.tiles ∙ edge-at H 8 level D h) ∙ ap (λ x. behind 256 (hashes H 256 level D) ++ x) f

  pub row_here : (known : ℕ) (joined : List (List ℕ)) → known ≡ length (hashes H 256 level D)
      → joined ≡ behind 256 (hashes H 256 level D) ++ added H level D B → (known / 256, joined) ≡ row H 256 level D B
  row_here known joined k j =
      let a : known / 256 ≡ (row H 256 level D B).0 = ap (λ n. n / 256) k in
      let b : joined ≡ (row H 256 level D B).1 = j ∙ sym (row-is H level D B) in
      ap (λ (x : ℕ). (x, joined)) a ∙ ap (λ (y : List (List ℕ)). ((row H 256 level D B).0, y)) b

  pub edge_here : (joined part : List (List ℕ)) → joined ≡ behind 256 (hashes H 256 level D) ++ added H level D B
      → part ≡ behind 256 joined → part ≡ behind 256 (hashes H 256 level (D ++ B))
  edge_here joined part j p = p ∙ ap (behind 256) j ∙ sym (behind-is H level D B)

  pub fresh_here : (joined roots : List (List ℕ)) → joined ≡ behind 256 (hashes H 256 level D) ++ added H level D B
      → roots ≡ up H 256 joined → roots ≡ added H (level + 1) D B
  fresh_here joined roots j r = r ∙ ap (up H 256) j ∙ sym (added-next H level D B)

  pub rows_here : {R : Type 0} (f : R → ℕ × List (List ℕ)) (old new : List R) (r : R) → new ≡ old ++ r ∷ []
      → map f old ≡ rows H 256 level D B → f r ≡ row H 256 level D B → map f new ≡ rows H 256 (level + 1) D B
  rows_here f old new r n o e =
      ap (map f) n ∙ map_push f old r ∙ rw (o, e) (sym (rows-more H level D B))

  pub tiles_here : {T : Type 0} (f : T → List (List ℕ)) (old new : List T) (t : T) → new ≡ old ++ t ∷ []
      → map f old ≡ edge H 256 level (D ++ B) → f t ≡ behind 256 (hashes H 256 level (D ++ B)) → map f new ≡ edge H 256 (level + 1) (D ++ B)
  tiles_here f old new t n o e =
      ap (map f) n ∙ map_push f old t ∙ rw (o, e) (sym (edge-more H level (D ++ B)))

-- ---- no leaves
none_at : (H : List ℕ → List ℕ) (k : ℕ) → hashes H 256 k [] ≡ []
unfolding hashes chunk_roots
none_at H zero = refl
none_at H (suc k) = ap (up H 256) (none_at H k)

pub none_more : (H : List ℕ → List ℕ) (k : ℕ) (old new : List (Vec (List ℕ) Global)) (t : Vec (List ℕ) Global) → new ≡ old ++ t ∷ [] → t.items ≡ []
    → map (λ v. v.items) old ≡ edge H 256 k [] → map (λ v. v.items) new ≡ edge H 256 (k + 1) []
none_more H k old new t n z o =
    ap (map (λ v. v.items)) n ∙ map_push (λ v. v.items) old t ∙ rw (o, z) (ap (λ E. edge H 256 k [] ++ behind 256 E ∷ []) (sym (none_at H k)) ∙ sym (edge-more H k []))

-- the hashes from an index on, 256 or as many as there are
pub cut : (start width : ℕ) (X Y : List (List ℕ)) → X ≡ Y → start < length Y → (width ≡ 256) ⊎ ((width ≡ length Y - start) × (width < 256))
    → take (start + width - start) (drop start X) ≡ take 256 (drop start Y)
cut start width X Y e h (inl w) =
    let k : start + width - start ≡ 256 = omega arith in
    ap (λ x. take (start + width - start) (drop start x)) e ∙ ap (λ n. take n (drop start Y)) k
cut start width X Y e h (inr w) =
    let k : start + width - start ≡ length Y - start = omega arith in
    ap (λ x. take (start + width - start) (drop start x)) e ∙ ap (λ n. take n (drop start Y)) k
    ∙ take_rest Y start ∙ sym (take_all 256 (drop start Y) (omega (arith, length-drop start Y, w.0, w.1)))
