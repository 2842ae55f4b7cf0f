-- Steps of the loops.
use Rattle.std.proofs.Common.{◌≡◌, ◌⊎◌, ◌∙◌, ◌+◌, ◌-◌, ◌*◌, ◌/◌, ◌%◌, ◌<◌, ◌≤◌, ◌^◌, ℕ, zero, suc, cond, List, [], ◌∷◌, ◌++◌, length, take, drop, get_or, map, All, sym, refl, ap, subst, arith, nat_lt, add-one, length-drop, length-append, ⊎_elim, Vec, Global}
use Rattle.std.proofs.Math.Nat.{pow-suc, div-div-eq-div-mul}
use Rattle.std.proofs.lemmas.List.{take_more, take_all, map_push, get_or-map, length-map, length_push, length-take-le, get_or_append_left, get_or_at}
use Rattle.std.proofs.lemmas.List.Elements.{All-push, All-get_or}
use Rattle.std.proofs.lemmas.Bool.{cases_lt}
use Rattle.ct_tiles.specs.Tiles.{hashes, tile, row, rows}
use Rattle.ct_tiles.specs.declared.row.Row.{Row}
use Rattle.ct_tiles.proofs.Chunks.{rows-at, length-rows, hashes-append, added}
use Rattle.ct_tiles.proofs.Stays.{row_is_tiles}
use Rattle.ct_tiles.proofs.Words.{level_has_length}
use Rattle.ct_data_tiles.specs.TileNames.{name_text}
use Rattle.ct_data_tiles.specs.declared.tile.Tile.{Tile}
use Rattle.ct_step.proofs.Names.{short_name}
use Rattle.ct_data_tiles.specs.declared.tile.Content.TheVariants.{Hashes, Entries}
use Rattle.ct_data_tiles.specs.Rows.{data_tile, data_tiles_from}
use Rattle.ct_data_tiles.proofs.Rows.{text_in}
use Rattle.ct_step.specs.Objects.{named, hash_object, entry_object, each_from, changed, level_objects, data_objects, cut_object, cut_level}
use Rattle.ct_step.proofs.Written.{each-same, each-more}

pub mapped-more : {X Y : Type 0} (f : X → Y) (P : Y → Type 0) (E : List X) (i : ℕ) (t : X) → i < length E → t ≡ get_or E i t
    → All P (map f (take i E)) → P (f t) → All P (map f (take (i + 1) E))
mapped-more f P E i t h is all p =
    subst (All P) (sym (ap (map f) (take_more E i t h ∙ ap (λ x. take i E ++ x ∷ []) (sym is)) ∙ map_push f (take i E) t))
    (All-push P (map f (take i E)) (f t) all p)

pub mapped-at : {X Y : Type 0} (f : X → Y) (P : Y → Type 0) (E : List X) (i : ℕ) (t : X) → All P (map f E) → i < length E → t ≡ get_or E i t → P (f t)
mapped-at f P E i t all h is =
    subst P (get_or-map f E i t (f t) h ∙ ap f (sym is)) (All-get_or P (map f E) i (f t) (omega (arith, h, length-map E f)) all)

pub mapped-all : {X Y : Type 0} (f : X → Y) (P : Y → Type 0) (E : List X) (n : ℕ) → length E ≤ n → All P (map f (take n E)) → All P (map f E)
mapped-all f P E n h all = subst (λ x. All P (map f x)) (take_all n E h) all

-- ---- the tiles of a level
-- a tile that is cut at its width or at the end of the hashes
pub cut : (E : List (List ℕ)) (s w : ℕ) → w ≤ 256 → (w ≡ 256) ⊎ (length E ≡ s + w) → take w (drop s E) ≡ take 256 (drop s E)
cut E s w h end =
    ⊎_elim
    (λ (e : w ≡ 256). ap (λ (n : ℕ). take n (drop s E)) e)
    (λ (e : length E ≡ s + w).
    take_all w (drop s E) (omega (arith, e, length-drop s E)) ∙ sym (take_all 256 (drop s E) (omega (arith, h, e, length-drop s E))))
    end

pub cut-named : (level first i w : ℕ) (E T : List (List ℕ)) → T ≡ take w (drop (256 * i) E) → w ≤ 256 → (w ≡ 256) ⊎ (length E ≡ 256 * i + w)
    → named (Hashes level) (first + i) T ≡ cut_object level first E (0 + i)
cut-named level first i w E T t h end =
    let e : T ≡ take 256 (drop (256 * i) E) = t ∙ cut E (256 * i) w h end in
    let z : 0 + i ≡ i = omega arith in
    ap (λ (x : List (List ℕ)). named (Hashes level) (first + i) x) e
    ∙ sym (ap (λ (k : ℕ). cut_object level first E k) z)

-- the result of `changed` or `cut_level` if its test is true, and if it is not
pub test-true : {X : Type 0} (m n : ℕ) (x y : X) → m < n → cond (nat_lt m n) x y ≡ x
test-true m n x y h = grind (arith)

pub test-false : {X : Type 0} (m n : ℕ) (x y : X) → n ≤ m → cond (nat_lt m n) x y ≡ y
test-false m n x y h = grind (arith)

pub level-cut : (H : List ℕ → List ℕ) (level m : ℕ) (D B : List (List ℕ)) → m ≡ length (hashes H 256 level D)
    → cut_level level m (row H 256 level D B).1
    ≡ changed (hash_object H (D ++ B) level) (length (hashes H 256 level D)) (length (hashes H 256 level (D ++ B)))
level-cut H level m D B e =
    let known = length (hashes H 256 level D) in
    let all = hashes H 256 level (D ++ B) in
    let q = known / 256 in
    let E = (row H 256 level D B).1 in
    let grown : known ≤ length all =
    omega (arith, ap length (hashes-append H level D B) ∙ length-append (hashes H 256 level D) (added H level D B)) in
    let size : length E ≡ length all - 256 * q = length-drop (256 * q) all in
    let each : each_from (cut_object level q E) 0 ((length E + 255) / 256) ≡ each_from (hash_object H (D ++ B) level) q ((length all + 255) / 256 - q) =
    ap (each_from (cut_object level q E) 0) (omega (arith, size, grown))
    ∙ each-same (cut_object level q E) (hash_object H (D ++ B) level) 0 q ((length all + 255) / 256 - q)
    (λ i h. let z : 0 + i ≡ i = omega arith in
    ap (λ (k : ℕ). cut_object level q E k) z ∙ ap (λ (x : List (List ℕ)). named (Hashes level) (q + i) x) (row_is_tiles H level i D B)) in
    ap (λ (n : ℕ). cut_level level n E) e
    ∙ ⊎_elim
    (λ (more : known < length all).
    test-true (known % 256) (length E) (each_from (cut_object level q E) 0 ((length E + 255) / 256)) [] (omega (arith, size, more))
    ∙ each ∙ sym (test-true known (length all) (each_from (hash_object H (D ++ B) level) q ((length all + 255) / 256 - q)) [] more))
    (λ (same : length all ≤ known).
    test-false (known % 256) (length E) (each_from (cut_object level q E) 0 ((length E + 255) / 256)) [] (omega (arith, size, same, grown))
    ∙ sym (test-false known (length all) (each_from (hash_object H (D ++ B) level) q ((length all + 255) / 256 - q)) [] same))
    (cases_lt known (length all))

pub levels-none : (H : List ℕ → List ℕ) (D B : List (List ℕ)) → level_objects H 0 D B ≡ []
unfolding level_objects
levels-none H D B = refl

levels-more : (H : List ℕ → List ℕ) (level : ℕ) (D B : List (List ℕ))
    → level_objects H (level + 1) D B
    ≡ level_objects H level D B ++ changed (hash_object H (D ++ B) level) (length (hashes H 256 level D)) (length (hashes H 256 level (D ++ B)))
unfolding level_objects
levels-more H level D B = rw add-one refl

abbrev pub pair_of : Row → ℕ × List (List ℕ)
pair_of r = (r.first, r.hashes.items)

-- one more level
pub levels-step : (H : List ℕ → List ℕ) (level size known : ℕ) (D B : List (List ℕ)) (R : List Row) (r : Row) → level < 8 → size ≡ length D
    → known ≡ size / 256 ^ level → map pair_of R ≡ rows H 256 8 D B → r ≡ get_or R level r
    → level_objects H level D B ++ cut_level level known r.hashes.items ≡ level_objects H (level + 1) D B
levels-step H level size known D B R r h s k t is =
    let inside : level < length R = omega (arith, h, sym (length-map R pair_of) ∙ ap length t ∙ length-rows H 8 D B) in
    let here : pair_of r ≡ row H 256 level D B =
    ap pair_of is ∙ sym (get_or-map pair_of R level r (0, []) inside) ∙ ap (λ (x : List (ℕ × List (List ℕ))). get_or x level (0, [])) t ∙ rows-at H 8 level D B h in
    let m : known ≡ length (hashes H 256 level D) = k ∙ ap (λ (n : ℕ). n / 256 ^ level) s ∙ sym (level_has_length H level D) in
    ap (λ (x : ℕ × List (List ℕ)). level_objects H level D B ++ cut_level level known x.1) here
    ∙ ap (λ (x : List (List ℕ × List ℕ)). level_objects H level D B ++ x) (level-cut H level known D B m)
    ∙ sym (levels-more H level D B)

pub rows-eight : (H : List ℕ → List ℕ) (D B : List (List ℕ)) (R : List Row) → map pair_of R ≡ rows H 256 8 D B → length R ≡ 8
rows-eight H D B R t = sym (length-map R pair_of) ∙ ap length t ∙ length-rows H 8 D B

-- ---- data tiles
pub length-data : (first count : ℕ) (M : List (List ℕ)) → length (data_tiles_from first count M) ≡ count
unfolding data_tiles_from
length-data first zero M = refl
length-data first (suc count) M = omega (arith, length_push (data_tiles_from first count M) (data_tile (first + count) M), length-data first count M)

pub data-at : (first count k : ℕ) (M : List (List ℕ)) → k < count → get_or (data_tiles_from first count M) k [] ≡ data_tile (first + k) M
unfolding data_tiles_from
data-at first zero k M h = absurd (omega (arith, h))
data-at first (suc count) k M h =
    ⊎_elim
    (λ (below : k < count). get_or_append_left (data_tiles_from first count M) (data_tile (first + count) M ∷ []) [] k (omega (arith, below, length-data first count M))
    ∙ data-at first count k M below)
    (λ (here : count ≤ k). let e : k ≡ count = omega (arith, h, here) in
    rw e (get_or_at (data_tiles_from first count M) (data_tile (first + count) M) [] [] count (length-data first count M)))
    (cases_lt k count)

-- the name of a data tile
abbrev pub name_of : ℕ → ℕ → List ℕ
name_of width index = name_text (record { content = Entries; index = index; width = width })

-- a full data tile under its name
pub full-object : (first i : ℕ) (M : List (List ℕ)) (T : List (Vec ℕ Global)) (t : Vec ℕ Global) → map text_in T ≡ data_tiles_from first (length T) M
    → 256 * (first + length T) ≤ length M → i < length T → t ≡ get_or T i t
    → (name_of 256 (first + i), t.items) ≡ entry_object M (first + i)
full-object first i M T t same fits h is =
    let content : t.items ≡ data_tile (first + i) M =
    ap text_in is ∙ sym (get_or-map text_in T i t [] h) ∙ ap (λ (x : List (List ℕ)). get_or x i []) same ∙ data-at first (length T) i M h in
    let width : length (take 256 (drop (256 * (first + i)) M)) ≡ 256 =
    length-take-le 256 (drop (256 * (first + i)) M) (omega (arith, fits, h, length-drop (256 * (first + i)) M)) in
    ap (λ (x : List ℕ). (name_of 256 (first + i), x)) content
    ∙ ap (λ (n : ℕ). (name_of n (first + i), data_tile (first + i) M)) (sym width)

-- the full ones among the tiles that are written
pub full-tiles : (size : ℕ) (L N : List (List ℕ)) (T : List (Vec ℕ Global)) → size ≡ length L
    → map text_in T ≡ data_tiles_from (length L / 256) (length (L ++ N) / 256 - length L / 256) (L ++ N)
    → (length T ≡ length (L ++ N) / 256 - length L / 256) × (map text_in T ≡ data_tiles_from (size / 256) (length T) (L ++ N))
full-tiles size L N T s same =
    let M = L ++ N in
    let k = length M / 256 - length L / 256 in
    let e : length T ≡ k = sym (length-map T text_in) ∙ ap length same ∙ length-data (length L / 256) k M in
    (e, same ∙ ap (λ (x : ℕ). data_tiles_from (x / 256) k M) (sym s) ∙ ap (λ (x : ℕ). data_tiles_from (size / 256) x M) (sym e))

-- the partial tile after them under its name
pub last-object : (M : List (List ℕ)) (size : ℕ) (x : List ℕ) → size ≡ length M → x ≡ data_tile (length M / 256) M
    → (name_of (size % 256) (size / 256), x) ≡ entry_object M (length M / 256)
last-object M size x s content =
    let q = length M / 256 in
    let rest : length (drop (256 * q) M) ≡ length M % 256 = omega (arith, length-drop (256 * q) M) in
    let width : length (take 256 (drop (256 * q) M)) ≡ length M % 256 =
    ap length (take_all 256 (drop (256 * q) M) (omega (arith, rest))) ∙ rest in
    ap (λ (y : List ℕ). (name_of (size % 256) (size / 256), y)) content
    ∙ ap (λ (n : ℕ). (name_of (n % 256) (n / 256), data_tile q M)) s
    ∙ ap (λ (n : ℕ). (name_of n q, data_tile q M)) (sym width)

pub some_of : (n : ℕ) → (n ≡ 0 → ⊥) → 0 < n
some_of n other = grind (arith)

-- the data tiles that are new or change if there are new texts, and no partial one follows the full ones
pub data-even : (L N : List (List ℕ)) → 0 < length N → length (L ++ N) % 256 ≡ 0
    → data_objects L N ≡ each_from (entry_object (L ++ N)) (length L / 256) (length (L ++ N) / 256 - length L / 256)
data-even L N some even =
    let object = entry_object (L ++ N) in
    let m = length L in
    let n = length (L ++ N) in
    let all : n ≡ m + length N = length-append L N in
    test-true m n (each_from object (m / 256) ((n + 255) / 256 - m / 256)) [] (omega (arith, some, all))
    ∙ ap (each_from object (m / 256)) (omega (arith, even))

-- the same if a partial one follows them
pub data-odd : (L N : List (List ℕ)) → 0 < length N → 0 < length (L ++ N) % 256
    → data_objects L N
    ≡ each_from (entry_object (L ++ N)) (length L / 256) (length (L ++ N) / 256 - length L / 256)
    ++ entry_object (L ++ N) (length (L ++ N) / 256) ∷ []
data-odd L N some odd =
    let object = entry_object (L ++ N) in
    let m = length L in
    let n = length (L ++ N) in
    let all : n ≡ m + length N = length-append L N in
    let k = n / 256 - m / 256 in
    let last : m / 256 + k ≡ n / 256 = omega (arith, all) in
    test-true m n (each_from object (m / 256) ((n + 255) / 256 - m / 256)) [] (omega (arith, some, all))
    ∙ ap (each_from object (m / 256)) (omega (arith, odd, all))
    ∙ each-more object (m / 256) k
    ∙ ap (λ (i : ℕ). each_from object (m / 256) k ++ object i ∷ []) last

pub name_is_short : (tile : Tile) → length (name_text tile) < 2 ^ 16
name_is_short tile = short_name tile

pub under : (n k : ℕ) → n / 256 ^ k ≤ n
under n zero = omega arith
under n (suc k) =
    omega (arith, under n k, sym (div-div-eq-div-mul n (256 ^ k) 256 ∙ ap (λ (x : ℕ). n / x) (sym (pow-suc 256 k))))
