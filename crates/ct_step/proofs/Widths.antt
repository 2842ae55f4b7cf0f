-- Steps of the loops over partial tiles.
use Rattle.std.proofs.Common.{◌≡◌, ◌∙◌, ℕ, zero, suc, ◌+◌, ◌/◌, ◌%◌, ◌^◌, ◌<◌, ◌≤◌, List, [], ◌∷◌, ◌++◌, length, take, get_or, map, sym, refl, ap, arith, Vec, Global, add-one, ⊎_elim}
use Rattle.std.proofs.lemmas.Bool.{cases_lt}
use Rattle.std.proofs.lemmas.List.{map_push, take_more, length-map, length_push, get_or_append_left, get_or_at}
use Rattle.std.proofs.Math.Nat.{pow-suc, div-div-eq-div-mul}
use Rattle.std.proofs.lemmas.List.Elements.{All-push}
use Rattle.std.proofs.Common.{All, subst}
use Rattle.ct_verify.specs.Laws.{AreHashes}
use Rattle.ct_tiles.specs.Tiles.{lone_root}
use Rattle.ct_step.specs.Believed.{tile_widths, carried_over}
use Rattle.ct_step.proofs.EdgesTell.{carried-push}

abbrev pub hashes_in : Vec (List ℕ) Global → List (List ℕ)
hashes_in t = t.items

pub widths-none : (n : ℕ) → tile_widths 0 n ≡ []
unfolding tile_widths
widths-none n = refl

widths-more : (levels n : ℕ) → tile_widths (levels + 1) n ≡ tile_widths levels n ++ (n / 256 ^ levels % 256) ∷ []
unfolding tile_widths
widths-more levels n = rw add-one refl

length-widths : (levels n : ℕ) → length (tile_widths levels n) ≡ levels
unfolding tile_widths
length-widths zero n = refl
length-widths (suc levels) n = omega (arith, length_push (tile_widths levels n) (n / 256 ^ levels % 256), length-widths levels n)

widths-at : (levels k n : ℕ) → k < levels → get_or (tile_widths levels n) k 0 ≡ n / 256 ^ k % 256
unfolding tile_widths
widths-at zero k n h = absurd (omega arith)
widths-at (suc levels) k n h =
    ⊎_elim
    (λ (below : k < levels). get_or_append_left (tile_widths levels n) ((n / 256 ^ levels % 256) ∷ []) 0 k (omega (arith, length-widths levels n)) ∙ widths-at levels k n below)
    (λ (here : levels ≤ k). let e : k ≡ levels = omega arith in
    rw e (get_or_at (tile_widths levels n) (n / 256 ^ levels % 256) [] 0 levels (length-widths levels n)))
    (cases_lt k levels)

pub rest-first : (n : ℕ) → n ≡ n / 256 ^ 0
rest-first n = omega arith

pub rest-step : (n rest i : ℕ) → rest ≡ n / 256 ^ i → rest / 256 ≡ n / 256 ^ (i + 1)
rest-step n rest i e =
    ap (λ (x : ℕ). x / 256) e ∙ div-div-eq-div-mul n (256 ^ i) 256 ∙ ap (λ (x : ℕ). n / x) (sym (pow-suc 256 i) ∙ ap (λ (k : ℕ). 256 ^ k) (sym (add-one i)))

read-map : {X Y : Type 0} (f : X → Y) (xs : List X) (i : ℕ) (d : X) (e : Y) → i < length xs → get_or (map f xs) i e ≡ f (get_or xs i d)
read-map f [] i d e h = absurd (omega (arith, h))
read-map f (x ∷ xs) zero d e h = refl
read-map f (x ∷ xs) (suc i) d e h = read-map f xs i d e (omega (arith, h))

pub not_eight : (E : List (Vec (List ℕ) Global)) (n : ℕ) → (length E ≡ 8 → ⊥) → map length (map hashes_in E) ≡ tile_widths 8 n → ⊥
not_eight E n other e =
    other (sym (length-map (map hashes_in E) length ∙ length-map E hashes_in) ∙ ap length e ∙ length-widths 8 n)

pub widths-step : (i n rest : ℕ) (E : List (Vec (List ℕ) Global)) (t : Vec (List ℕ) Global) → i < length E → t ≡ get_or E i t
    → rest ≡ n / 256 ^ i → length t.items ≡ rest % 256
    → map length (map hashes_in (take i E)) ≡ tile_widths i n → map length (map hashes_in (take (i + 1) E)) ≡ tile_widths (i + 1) n
widths-step i n rest E t h is r w o =
    let more : take (i + 1) E ≡ take i E ++ t ∷ [] = take_more E i t h ∙ ap (λ (x : Vec (List ℕ) Global). take i E ++ x ∷ []) (sym is) in
    ap (λ (x : List (Vec (List ℕ) Global)). map length (map hashes_in x)) more
    ∙ ap (map length) (map_push hashes_in (take i E) t)
    ∙ map_push length (map hashes_in (take i E)) t.items
    ∙ ap (λ (x : List ℕ). x ++ length t.items ∷ []) o
    ∙ ap (λ (x : ℕ). tile_widths i n ++ x ∷ []) (w ∙ ap (λ (x : ℕ). x % 256) r)
    ∙ sym (widths-more i n)

pub widths-apart : (i n rest : ℕ) (E : List (Vec (List ℕ) Global)) (t : Vec (List ℕ) Global) → i < length E → i < 8 → t ≡ get_or E i t
    → rest ≡ n / 256 ^ i → (length t.items ≡ rest % 256 → ⊥) → map length (map hashes_in E) ≡ tile_widths 8 n → ⊥
widths-apart i n rest E t h below is r other e =
    let inner : i < length (map hashes_in E) = omega (arith, h, length-map E hashes_in) in
    other
    (ap (λ (x : Vec (List ℕ) Global). length x.items) is
    ∙ sym (ap length (read-map hashes_in E i t [] h))
    ∙ sym (read-map length (map hashes_in E) i [] 0 inner)
    ∙ ap (λ (x : List ℕ). get_or x i 0) e
    ∙ widths-at 8 i n below
    ∙ ap (λ (x : ℕ). x % 256) (sym r))

pub carried-step : (H : List ℕ → List ℕ) (i : ℕ) (E : List (Vec (List ℕ) Global)) (t : Vec (List ℕ) Global) (old joined new : List (List ℕ))
    → i < length E → t ≡ get_or E i t → joined ≡ t.items ++ old → new ≡ lone_root H joined
    → old ≡ carried_over H (map hashes_in (take i E)) [] → new ≡ carried_over H (map hashes_in (take (i + 1) E)) []
carried-step H i E t old joined new h is j n o =
    let more : take (i + 1) E ≡ take i E ++ t ∷ [] = take_more E i t h ∙ ap (λ (x : Vec (List ℕ) Global). take i E ++ x ∷ []) (sym is) in
    n ∙ ap (lone_root H) (j ∙ ap (λ (x : List (List ℕ)). t.items ++ x) o)
    ∙ sym (ap (λ (x : List (Vec (List ℕ) Global)). carried_over H (map hashes_in x) []) more
    ∙ ap (λ (x : List (List (List ℕ))). carried_over H x []) (map_push hashes_in (take i E) t)
    ∙ carried-push H (map hashes_in (take i E)) t.items [])

pub hashes-step : (i : ℕ) (E : List (Vec (List ℕ) Global)) (t : Vec (List ℕ) Global) → i < length E → t ≡ get_or E i t → AreHashes t.items
    → All AreHashes (map hashes_in (take i E)) → All AreHashes (map hashes_in (take (i + 1) E))
hashes-step i E t h is a o =
    let more : take (i + 1) E ≡ take i E ++ t ∷ [] = take_more E i t h ∙ ap (λ (x : Vec (List ℕ) Global). take i E ++ x ∷ []) (sym is) in
    subst (All AreHashes) (sym (ap (map hashes_in) more ∙ map_push hashes_in (take i E) t))
    (All-push AreHashes (map hashes_in (take i E)) t.items o a)
