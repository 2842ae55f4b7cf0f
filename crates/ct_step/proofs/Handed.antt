-- The hashes of which bytes consist.
use Rattle.std.proofs.Common.{◌≡◌, ◌∙◌, ℕ, zero, suc, ◌+◌, ◌*◌, ◌/◌, ◌%◌, ◌<◌, List, [], ◌∷◌, ◌++◌, length, take, drop, get_or, map, All, sym, refl, ap, subst, arith, Vec, Global, length-drop}
use Rattle.std.specs.Simd.{first_chunks}
use Rattle.std.proofs.lemmas.List.{map_push, take_more, take-append-drop, take_at, drop_at, nil_from_length, length-append}
use Rattle.std.proofs.lemmas.List.Elements.{All-nil, All-cons, All-head, All-tail}
use Rattle.ct_codec.specs.Parts.{joined}
use Rattle.ct_data_tiles.proofs.Rows.{text_in}
use Rattle.ct_step.proofs.Widths.{hashes_in}
use Rattle.ct_step.proofs.Roots.{has_32}
use Rattle.ct_step.specs.Believed.{HaveWidths, edge_root, StopsBelief}
use Rattle.ct_step.specs.declared.believed.EdgeFault.{EdgeFault}
use Rattle.ct_step.specs.declared.believed.EdgeFault.TheVariants.{OtherWidths, OtherRoot, Memory}
use Rattle.ct_step.specs.declared.line.StateLine.{StateLine}
use Rattle.ct_verify.specs.Laws.{AreHashes}
use Rattle.ct_step.specs.Steps.{tile_hashes, AreBytesOf, StopsState, line_head, of_edge}

pub joined-chunks : (k : ℕ) (b : List ℕ) → length b ≡ 32 * k → joined (first_chunks 32 k b) ≡ b
joined-chunks zero b e = sym (nil_from_length b (omega (arith, e)))
joined-chunks (suc k) b e =
    ap (λ (r : List ℕ). take 32 b ++ r) (joined-chunks k (drop 32 b) (omega (arith, e, length-drop 32 b))) ∙ take-append-drop 32 b

pub length-joined : (t : List (List ℕ)) → AreHashes t → length (joined t) ≡ 32 * length t
length-joined [] a = refl
length-joined (h ∷ t) a =
    omega (arith, length-append h (joined t), All-head has_32 h t a, length-joined t (All-tail has_32 h t a))

chunks-joined : (t : List (List ℕ)) → AreHashes t → first_chunks 32 (length t) (joined t) ≡ t
chunks-joined [] a = refl
chunks-joined (h ∷ t) a =
    let size : length h ≡ 32 = All-head has_32 h t a in
    ap (λ (x : List ℕ). x ∷ first_chunks 32 (length t) (drop 32 (h ++ joined t))) (take_at h (joined t) 32 size)
    ∙ ap (λ (x : List ℕ). h ∷ first_chunks 32 (length t) x) (drop_at h (joined t) 32 size)
    ∙ ap (λ (x : List (List ℕ)). h ∷ x) (chunks-joined t (All-tail has_32 h t a))

-- hashes are the same when they are read from their own bytes
pub hashes-back : (t : List (List ℕ)) → AreHashes t → tile_hashes (joined t) ≡ t
hashes-back t a =
    let k : length (joined t) / 32 ≡ length t = omega (arith, length-joined t a) in
    ap (λ (n : ℕ). first_chunks 32 n (joined t)) k ∙ chunks-joined t a

pub all-back : (T : List (List (List ℕ))) → All AreHashes T → map tile_hashes (map joined T) ≡ T
all-back [] a = refl
all-back (t ∷ T) a =
    ap (λ (x : List (List ℕ)). x ∷ map tile_hashes (map joined T)) (hashes-back t (All-head AreHashes t T a))
    ∙ ap (λ (x : List (List (List ℕ))). t ∷ x) (all-back T (All-tail AreHashes t T a))

-- bytes of whole hashes
abbrev pub IsWhole : List ℕ → Type 0
IsWhole b = length b % 32 ≡ 0

pub bytes-back : (b : List ℕ) → IsWhole b → joined (tile_hashes b) ≡ b
bytes-back b w = joined-chunks (length b / 32) b (omega (arith, w))

pub all-bytes : (edge : List (List ℕ)) → All IsWhole edge → AreBytesOf (map tile_hashes edge) edge
all-bytes [] a = refl
all-bytes (b ∷ edge) a =
    ap (λ (x : List ℕ). x ∷ map joined (map tile_hashes edge)) (bytes-back b (All-head IsWhole b edge a))
    ∙ ap (λ (x : List (List ℕ)). b ∷ x) (all-bytes edge (All-tail IsWhole b edge a))

pub cut-step : (i : ℕ) (E : List (Vec ℕ Global)) (b : Vec ℕ Global) (old new : List (Vec (List ℕ) Global)) (t : Vec (List ℕ) Global)
    → i < length E → b ≡ get_or E i b → t.items ≡ tile_hashes b.items → new ≡ old ++ t ∷ []
    → map hashes_in old ≡ map tile_hashes (map text_in (take i E))
    → map hashes_in new ≡ map tile_hashes (map text_in (take (i + 1) E))
cut-step i E b old new t h is at n o =
    let more : take (i + 1) E ≡ take i E ++ b ∷ [] = take_more E i b h ∙ ap (λ (y : Vec ℕ Global). take i E ++ y ∷ []) (sym is) in
    ap (map hashes_in) n ∙ map_push hashes_in old t
    ∙ ap (λ (y : List (List (List ℕ))). y ++ t.items ∷ []) o
    ∙ ap (λ (y : List (List ℕ)). map tile_hashes (map text_in (take i E)) ++ y ∷ []) at
    ∙ sym (map_push tile_hashes (map text_in (take i E)) b.items)
    ∙ ap (map tile_hashes) (sym (ap (map text_in) more ∙ map_push text_in (take i E) b))

-- bytes that end within a hash are not those of a tile
pub not_whole : (T : List (List (List ℕ))) (edge : List (List ℕ)) → AreBytesOf T edge → All AreHashes T → All IsWhole edge
not_whole T edge e a = subst (All IsWhole) e (each T a)
  where
    each : (T : List (List (List ℕ))) → All AreHashes T → All IsWhole (map joined T)
    each [] a = All-nil IsWhole
    each (t ∷ T) a =
        All-cons IsWhole (joined t) (map joined T) (omega (arith, length-joined t (All-head AreHashes t T a))) (each T (All-tail AreHashes t T a))

-- a fault of the edge becomes the step's
pub not_believed : (H : List ℕ → List ℕ) (line : StateLine) (tiles : List (List (List ℕ))) (edge : List (List ℕ)) (fault : EdgeFault)
    → tiles ≡ map tile_hashes edge → StopsBelief H (line_head line) tiles fault → StopsState H line edge (of_edge fault)
not_believed H line tiles edge OtherWidths e s = λ T b a.
    let same : T ≡ tiles = sym (all-back T a.hashes) ∙ ap (map tile_hashes) b ∙ sym e in
    s (subst (HaveWidths line.tree_size) same a.widths)
not_believed H line tiles edge OtherRoot e s = λ T b a.
    let same : T ≡ tiles = sym (all-back T a.hashes) ∙ ap (map tile_hashes) b ∙ sym e in
    s.1 (ap (edge_root H) (sym same) ∙ a.root)
not_believed H line tiles edge Memory e s = refl
