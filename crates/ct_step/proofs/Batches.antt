-- The texts of a batch.
use Rattle.std.proofs.Common.{◌≡◌, ◌∙◌, ◌+◌, ◌<◌, ℕ, suc, List, [], ◌∷◌, ◌++◌, length, take, get_or, map, sym, refl, ap, arith, Vec, Global}
use Rattle.std.specs.List.{zip}
use Rattle.std.proofs.lemmas.List.{map_push, take_more, length-map, length-take-le, get_or-map}
use Rattle.std.proofs.lemmas.Slice.Zip.{firsts-zip, get_or-zip}
use Rattle.ct_codec.specs.Submitted.{Submitted}
use Rattle.ct_data_tiles.proofs.Rows.{text_in}
use Rattle.ct_step.proofs.Widths.{hashes_in}
use Rattle.ct_data_tiles.specs.TileLeaf.{Tiled, tile_leaf_text}
use Rattle.ct_step.specs.Entries.{tiled_at, tiled_leaves, texts_of}

-- a submission with its chain's fingerprints
abbrev pub Entry : Type 0
Entry = Submitted × List (List ℕ)

pub length-pairs : (S : List Submitted) (C : List (List (List ℕ))) → length C ≡ length S → length (zip S C) ≡ length S
length-pairs S C e = sym (length-map (zip S C) (λ (p : Entry). p.0)) ∙ ap length (firsts-zip S C e)

pub counted : (S : List Submitted) (C : List (List (List ℕ))) (V : List Entry) → zip S C ≡ V → length C ≡ length S → length V ≡ length S
counted S C V v e = sym (ap length v) ∙ length-pairs S C e

pub pairs-at : (S : List Submitted) (C : List (Vec (List ℕ) Global)) (i : ℕ) (s : Submitted) (c : Vec (List ℕ) Global)
    → i < length S → length (map hashes_in C) ≡ length S → s ≡ get_or S i s → c ≡ get_or C i c
    → (s, hashes_in c) ≡ get_or (zip S (map hashes_in C)) i (s, hashes_in c)
pairs-at S C i s c h e a b =
    let within : i < length (map hashes_in C) = omega (arith, h, e) in
    let here : i < length C = omega (arith, within, length-map C hashes_in) in
    sym (get_or-zip S (map hashes_in C) i (s, hashes_in c) h within
    ∙ ap (λ (x : Submitted). (x, get_or (map hashes_in C) i (hashes_in c))) (sym a)
    ∙ ap (λ (x : List (List ℕ)). (s, x)) (get_or-map hashes_in C i c (hashes_in c) here ∙ ap hashes_in (sym b)))

pub tiled-none : (t first : ℕ) → texts_of (tiled_leaves t first []) ≡ []
unfolding tiled_leaves
tiled-none t first = refl

tiled-push : (t first : ℕ) (B : List Entry) (e : Entry)
    → tiled_leaves t first (B ++ e ∷ []) ≡ tiled_leaves t first B ++ tiled_at t e (first + length B) ∷ []
unfolding tiled_leaves
tiled-push t first [] e = let z : first ≡ first + 0 = omega arith in ap (λ (n : ℕ). tiled_at t e n ∷ []) z
tiled-push t first (x ∷ B) e =
    let z : suc first + length B ≡ first + suc (length B) = omega arith in
    ap (λ (r : List Tiled). tiled_at t x first ∷ r)
    (tiled-push t (suc first) B e ∙ ap (λ (n : ℕ). tiled_leaves t (suc first) B ++ tiled_at t e n ∷ []) z)

-- one more text
pub texts-step : (t first i : ℕ) (B : List Entry) (e : Entry) (old new : List (Vec ℕ Global)) (x : Vec ℕ Global)
    → i < length B → e ≡ get_or B i e → x.items ≡ tile_leaf_text (tiled_at t e (first + i)) → new ≡ old ++ x ∷ []
    → map text_in old ≡ texts_of (tiled_leaves t first (take i B)) → map text_in new ≡ texts_of (tiled_leaves t first (take (i + 1) B))
texts-step t first i B e old new x h is at n o =
    let T = take i B in
    let size : length T ≡ i = length-take-le i B (omega (arith, h)) in
    let more : take (i + 1) B ≡ T ++ e ∷ [] = take_more B i e h ∙ ap (λ (y : Entry). T ++ y ∷ []) (sym is) in
    ap (map text_in) n ∙ map_push text_in old x
    ∙ ap (λ (y : List (List ℕ)). y ++ x.items ∷ []) o
    ∙ ap (λ (y : List ℕ). texts_of (tiled_leaves t first T) ++ y ∷ [])
    (at ∙ ap (λ (k : ℕ). tile_leaf_text (tiled_at t e (first + k))) (sym size))
    ∙ sym (map_push tile_leaf_text (tiled_leaves t first T) (tiled_at t e (first + length T)))
    ∙ ap (map tile_leaf_text) (sym (tiled-push t first T e))
    ∙ ap (λ (y : List Entry). texts_of (tiled_leaves t first y)) (sym more)
