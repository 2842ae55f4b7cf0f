-- Whole data tiles: leaves one after the other, step by step along the bytes, and one fault for each input.
use Rattle.std.proofs.Common.{◌≡◌, ◌<◌, ◌≤◌, ◌+◌, ℕ, zero, suc, List, [], ◌∷◌, ◌++◌, length, map, Result, Ok, Err, Vec, ◌⊎◌, inl, inr}
use Rattle.std.proofs.Common.{refl, sym, ap, ◌∙◌, arith, length-append, append_assoc, append-nil}
use Rattle.std.specs.Prelude.{IfOk, IfErr}
use Rattle.std.specs.Result.{IsErrAnd}
use Rattle.std.specs.List.{AllByRecursion}
use Rattle.std.proofs.lemmas.Grind.{flat_map-append}
use Rattle.std.proofs.lemmas.List.{map-append}
use Rattle.ct_codec.specs.Bytes.{num, vec}
use Rattle.ct_codec.specs.Parts.{joined}
use Rattle.ct_codec.specs.Leaf.{SignedEntry, entry_text}
use Rattle.ct_codec.proofs.Refusals.{length-num}
use Rattle.ct_data_tiles.specs.TileLeaf.{Tiled, IsTileLeaf, BeginsWith, beside_text, tile_leaf_text}
use Rattle.ct_data_tiles.specs.Faults.{TileLeafFaulty}
use Rattle.ct_data_tiles.specs.DataTile.{tile_leaves_text, IsDataTile, tiled_all, DataTileFaulty, GivesTileLeaves}
use Rattle.ct_data_tiles.specs.Laws.{AreOne, DataTilesStandApart, DataTilesHaveOneFault, DataTilesHaveNoFault}
use Rattle.ct_data_tiles.specs.declared.leaf.TileLeaf.{TileLeaf}
use Rattle.ct_data_tiles.specs.declared.fault.TileFault.{TileFault}
use Rattle.ct_data_tiles.specs.declared.fault.DataTileFault.{DataTileFault}
use Rattle.ct_data_tiles.specs.declared.fault.DataTileFault.TheVariants.{AtLeaf, Memory}
use Rattle.ct_data_tiles.proofs.Apart.{tile_leaves_stand_apart}
use Rattle.ct_data_tiles.proofs.Fields.{five_parts}
use Rattle.ct_data_tiles.proofs.Verdict.{TileRead, tile_read, tile_leaf_verdict, tile_leaf_here}

-- the bytes are these leaves and the rest
pub record PassedLeaves (L : List Tiled) (b r : List ℕ) : Type 0 where
  pub each : AllByRecursion IsTileLeaf L
  pub text : b ≡ tile_leaves_text L ++ r

one_after : (L : List Tiled) (l : Tiled) → AllByRecursion IsTileLeaf L → IsTileLeaf l → AllByRecursion IsTileLeaf (L ++ l ∷ [])
one_after [] l all one = (one, tt)
one_after (m ∷ L) l all one = (all.0, one_after L l all.1 one)

texts_after : (L : List Tiled) (l : Tiled) → tile_leaves_text (L ++ l ∷ []) ≡ tile_leaves_text L ++ tile_leaf_text l
texts_after L l =
    ap joined (map-append tile_leaf_text L (l ∷ [])) ∙ flat_map-append (λ (p : List ℕ). p) (map tile_leaf_text L) (tile_leaf_text l ∷ [])
    ∙ ap (λ x. tile_leaves_text L ++ x) (append-nil (tile_leaf_text l))

pub one_more_leaf : (L : List Tiled) (l : Tiled) (b r s : List ℕ) → PassedLeaves L b r → BeginsWith l r s → PassedLeaves (L ++ l ∷ []) b s
one_more_leaf L l b r s w begins = record {
  each = one_after L l w.each begins.leaf;
  text = w.text ∙ ap (λ x. tile_leaves_text L ++ x) begins.text ∙ sym (append_assoc (tile_leaves_text L) (tile_leaf_text l) s)
      ∙ ap (λ x. x ++ s) (sym (texts_after L l));
}

-- a leaf's text has some bytes
pub some_bytes : (l : Tiled) (b s : List ℕ) → b ≡ tile_leaf_text l ++ s → length s < length b
some_bytes l b s e =
    let E = entry_text l.entry in
    let X = vec 2 l.extensions in
    let P = beside_text l.entry l.precertificate in
    let F = vec 2 l.fingerprints in
    let size = ap length (e ∙ five_parts (num 8 l.timestamp) E X P F s) in
    let whole = length-append (num 8 l.timestamp) (E ++ (X ++ (P ++ (F ++ s)))) in
    let entry = length-append E (X ++ (P ++ (F ++ s))) in
    let extensions = length-append X (P ++ (F ++ s)) in
    let beside = length-append P (F ++ s) in
    let end = length-append F s in
    let eight = length-num 8 l.timestamp in
    omega (arith, size, whole, entry, extensions, beside, end, eight)

-- ---- one list of leaves for each input
abbrev made : ℕ → SignedEntry → List ℕ → List ℕ → List ℕ → Tiled
made t e x p f = record { timestamp = t; entry = e; extensions = x; precertificate = p; fingerprints = f }

one_leaf : (l m : Tiled) → AreOne l m → l ≡ m
one_leaf l m same =
    ap (λ t. made t l.entry l.extensions l.precertificate l.fingerprints) same.timestamp
    ∙ ap (λ e. made m.timestamp e l.extensions l.precertificate l.fingerprints) same.entry
    ∙ ap (λ x. made m.timestamp m.entry x l.precertificate l.fingerprints) same.extensions
    ∙ ap (λ p. made m.timestamp m.entry m.extensions p l.fingerprints) same.precertificate
    ∙ ap (λ f. made m.timestamp m.entry m.extensions m.precertificate f) same.fingerprints

texts_apart : (L M : List Tiled) → AllByRecursion IsTileLeaf L → AllByRecursion IsTileLeaf M → tile_leaves_text L ≡ tile_leaves_text M → L ≡ M
texts_apart [] [] p q e = refl
texts_apart [] (m ∷ M) p q e =
    let some = some_bytes m (tile_leaves_text (m ∷ M)) (tile_leaves_text M) refl in
    let none = ap length e in
    absurd (omega (arith, some, none))
texts_apart (l ∷ L) [] p q e =
    let some = some_bytes l (tile_leaves_text (l ∷ L)) (tile_leaves_text L) refl in
    let none = ap length e in
    absurd (omega (arith, some, none))
texts_apart (l ∷ L) (m ∷ M) p q e =
    let parts = tile_leaves_stand_apart l m (tile_leaves_text L) (tile_leaves_text M) p.0 q.0 e in
    ap (λ x. x ∷ L) (one_leaf l m parts.0) ∙ ap (λ X. m ∷ X) (texts_apart L M p.1 q.1 parts.1)

pub data_tiles_stand_apart : DataTilesStandApart
data_tiles_stand_apart L M b p q = texts_apart L M p.leaves q.leaves (sym p.text ∙ q.text)

-- ---- one fault for each input
-- the result after a leaf, or the fault with its index
abbrev then_leaf : TileRead → ℕ → (List ℕ → DataTileFault) → DataTileFault
then_leaf (Ok r) i k = k r
then_leaf (Err f) i k = AtLeaf i f

-- the fault of at most n leaves one after the other, the first with index i, to the end of the bytes, or Memory if they have none
abbrev leaves_read : ℕ → ℕ → List ℕ → DataTileFault
leaves_read n i [] = Memory
leaves_read zero i (x ∷ y) = Memory
leaves_read (suc n) i (x ∷ y) = then_leaf (tile_read (x ∷ y)) i (leaves_read n (i + 1))

next_leaf : (n i : ℕ) (y : List ℕ) → 0 < length y → leaves_read (suc n) i y ≡ then_leaf (tile_read y) i (leaves_read n (i + 1))
next_leaf n i [] h = absurd (omega arith)
next_leaf n i (x ∷ y) h = refl

-- the leaves are read, and the rest is read with enough steps left
passed_leaves : (L : List Tiled) (n i : ℕ) (y s : List ℕ) → AllByRecursion IsTileLeaf L → y ≡ tile_leaves_text L ++ s → length y ≤ n
    → (m : ℕ) × (length s ≤ m) × (leaves_read n i y ≡ leaves_read m (i + length L) s)
passed_leaves [] n i y s all e h =
    let z : i ≡ i + 0 = omega arith in
    (n, rw (← e) h, ap (leaves_read n i) e ∙ ap (λ (k : ℕ). leaves_read n k s) z)
passed_leaves (l ∷ L) zero i y s all e h =
    let whole : y ≡ tile_leaf_text l ++ (tile_leaves_text L ++ s) = e ∙ append_assoc (tile_leaf_text l) (tile_leaves_text L) s in
    let some = some_bytes l y (tile_leaves_text L ++ s) whole in
    absurd (omega (arith, some))
passed_leaves (l ∷ L) (suc n) i y s all e h =
    let whole : y ≡ tile_leaf_text l ++ (tile_leaves_text L ++ s) = e ∙ append_assoc (tile_leaf_text l) (tile_leaves_text L) s in
    let some = some_bytes l y (tile_leaves_text L ++ s) whole in
    let rest = passed_leaves L n (i + 1) (tile_leaves_text L ++ s) s all.1 refl (omega (arith, some)) in
    let z : i + 1 + length L ≡ i + suc (length L) = omega arith in
    let step = next_leaf n i y (omega (arith, some))
    ∙ ap (λ x. then_leaf x i (leaves_read n (i + 1))) (tile_leaf_here l (tile_leaves_text L ++ s) y all.0 whole) in
    (rest.0, rest.1, step ∙ rest.2 ∙ ap (λ (k : ℕ). leaves_read rest.0 k s) z)

faulty_leaf : (f : TileFault) (n i : ℕ) (s : List ℕ) → 0 < length s → length s ≤ n → TileLeafFaulty f s → leaves_read n i s ≡ AtLeaf i f
faulty_leaf f zero i s some h v = absurd (omega arith)
faulty_leaf f (suc n) i s some h v = next_leaf n i s some ∙ ap (λ x. then_leaf x i (leaves_read n (i + 1))) (tile_leaf_verdict f s v)

none_left : (m i : ℕ) → leaves_read m i [] ≡ Memory
none_left zero i = refl
none_left (suc m) i = refl

tile_text_read : (L : List Tiled) (b : List ℕ) → IsDataTile L b → leaves_read (length b) 0 b ≡ Memory
tile_text_read L b p =
    let passed = passed_leaves L (length b) 0 b [] p.leaves (p.text ∙ sym (append-nil (tile_leaves_text L))) (omega arith) in
    passed.2 ∙ none_left passed.0 (0 + length L)

-- each fault of a data tile is the one that reading finds
data_tile_verdict : (f : DataTileFault) (b : List ℕ) → DataTileFaulty f b → leaves_read (length b) 0 b ≡ f
data_tile_verdict (AtLeaf i f) b v =
    let passed = passed_leaves v.0 (length b) 0 b v.1 v.2 v.5 (omega arith) in
    let z : 0 + length v.0 ≡ i = omega (arith, v.3) in
    passed.2 ∙ faulty_leaf f passed.0 (0 + length v.0) v.1 v.4 passed.1 v.6 ∙ ap (λ (k : ℕ). AtLeaf k f) z
data_tile_verdict Memory b v = tile_text_read v.0 b v.1

pub data_tiles_have_one_fault : DataTilesHaveOneFault
data_tiles_have_one_fault f g b v w = sym (data_tile_verdict f b v) ∙ data_tile_verdict g b w

pub data_tiles_have_no_fault : DataTilesHaveNoFault
data_tiles_have_no_fault L b f p v = sym (data_tile_verdict f b v) ∙ tile_text_read L b p

-- ---- the answers
pub gathered : {A : Type 0} (L : List Tiled) (b : List ℕ) (r : Result (Vec TileLeaf A) DataTileFault) → IsDataTile L b
    → IfOk r (λ v. IsDataTile (tiled_all v.items) b) → IfErr r (λ f. (f ≡ Memory) ⊎ DataTileFaulty f b) → GivesTileLeaves L r
gathered L b (Ok v) p ok bad = (data_tiles_stand_apart (tiled_all v.items) L b ok p, tt)
gathered L b (Err f) p ok (inl e) = (tt, e)
gathered L b (Err f) p ok (inr v) = (tt, data_tiles_have_no_fault L b f p v)

-- the same at the exit of a `?`
pub tile_left : {A : Type 0} (r : Result (Vec TileLeaf A) DataTileFault) (f : DataTileFault) (L : List Tiled) (b : List ℕ) → IsDataTile L b
    → IsErrAnd r (λ g. g ≡ f) → DataTileFaulty f b → GivesTileLeaves L r
tile_left (Ok v) f L b p met faulty = absurd met
tile_left (Err g) f L b p met faulty = (tt, met ∙ data_tiles_have_no_fault L b f p faulty)
