-- The step that adds one entry.
use Rattle.std.proofs.Common.{◌≡◌, ◌∙◌, ℕ, zero, suc, ◌+◌, ◌-◌, ◌*◌, ◌/◌, ◌%◌, ◌<◌, ◌≤◌, List, [], ◌∷◌, ◌++◌, length, take, drop, map, get_or, sym, refl, ap, arith, Vec, Global, add-one, length-drop, append_assoc}
use Rattle.std.proofs.lemmas.List.{take_all, take-append-le, drop-append-le, append-nil, nil_from_length, length_push, map_push, take_more}
use Rattle.ct_codec.specs.Parts.{joined}
use Rattle.ct_data_tiles.specs.Rows.{data_tile, data_tiles_from, IsPartialTile}

-- The tiles of M from an index on: the number of entries of the last one (`count`), the ones before it (`full_ones`) and its bytes
-- (`last`). The last one is not before that index (`later`).
pub record AreTiles (first : ℕ) (M full : List (List ℕ)) (bytes : List ℕ) (n : ℕ) : Type 0 where
  pub count : n ≡ length M % 256
  pub full_ones : full ≡ data_tiles_from first (length M / 256 - first) M
  pub last : bytes ≡ data_tile (length M / 256) M
  pub later : first ≤ length M / 256

tiles-none : (first : ℕ) (L : List (List ℕ)) → data_tiles_from first 0 L ≡ []
unfolding data_tiles_from
tiles-none first L = refl

tiles-more : (first count : ℕ) (L : List (List ℕ)) → data_tiles_from first (count + 1) L ≡ data_tiles_from first count L ++ data_tile (first + count) L ∷ []
unfolding data_tiles_from
tiles-more first count L = rw add-one refl

-- a full tile stays
tile-stays : (index : ℕ) (M X : List (List ℕ)) → 256 * index + 256 ≤ length M → data_tile index (M ++ X) ≡ data_tile index M
tile-stays index M X h =
    ap (λ (d : List (List ℕ)). joined (take 256 d)) (drop-append-le (256 * index) M X (omega (arith, h)))
    ∙ ap joined (take-append-le 256 (drop (256 * index) M) X (omega (arith, h, length-drop (256 * index) M)))

tiles-stay : (first count : ℕ) (M X : List (List ℕ)) → 256 * (first + count) ≤ length M → data_tiles_from first count (M ++ X) ≡ data_tiles_from first count M
unfolding data_tiles_from
tiles-stay first zero M X h = refl
tiles-stay first (suc count) M X h =
    ap (λ (r : List (List ℕ)). r ++ data_tile (first + count) (M ++ X) ∷ []) (tiles-stay first count M X (omega (arith, h)))
    ∙ ap (λ (t : List ℕ). data_tiles_from first count M ++ t ∷ []) (tile-stays (first + count) M X (omega (arith, h)))

joined-push : (E : List (List ℕ)) (x : List ℕ) → joined (E ++ x ∷ []) ≡ joined E ++ x
joined-push [] x = append-nil x
joined-push (y ∷ E) x = ap (λ (r : List ℕ). y ++ r) (joined-push E x) ∙ sym (append_assoc y (joined E) x)

-- the last tile has everything after the full ones
last-tile : (q : ℕ) (M : List (List ℕ)) → length M ≤ 256 * q + 256 → data_tile q M ≡ joined (drop (256 * q) M)
last-tile q M h = ap joined (take_all 256 (drop (256 * q) M) (omega (arith, h, length-drop (256 * q) M)))

last-more : (q : ℕ) (M : List (List ℕ)) (x : List ℕ) → 256 * q ≤ length M → length M < 256 * q + 256 → data_tile q (M ++ x ∷ []) ≡ data_tile q M ++ x
last-more q M x low high =
    last-tile q (M ++ x ∷ []) (omega (arith, high, length_push M x))
    ∙ ap joined (drop-append-le (256 * q) M (x ∷ []) low)
    ∙ joined-push (drop (256 * q) M) x
    ∙ ap (λ (r : List ℕ). r ++ x) (sym (last-tile q M (omega (arith, high))))

pub below : (n : ℕ) → (n + 1 ≡ 256 → ⊥) → n < 256 → n + 1 < 256
below n other h = grind (arith)

pub more_open : (first : ℕ) (M full : List (List ℕ)) (bytes x : List ℕ) (n : ℕ) → (n + 1 ≡ 256 → ⊥) → AreTiles first M full bytes n
    → AreTiles first (M ++ x ∷ []) full (bytes ++ x) (n + 1)
more_open first M full bytes x n other t =
    let q = length M / 256 in
    let size : length (M ++ x ∷ []) ≡ length M + 1 = length_push M x in
    let small : n + 1 < 256 = below n other (omega (arith, t.count)) in
    let same : length (M ++ x ∷ []) / 256 ≡ q = omega (arith, size, small, t.count) in
    record {
      count = omega (arith, size, small, t.count);
      full_ones = t.full_ones ∙ sym (tiles-stay first (q - first) M (x ∷ []) (omega (arith, t.later)))
          ∙ ap (λ (k : ℕ). data_tiles_from first (k - first) (M ++ x ∷ [])) (sym same);
      last = ap (λ (r : List ℕ). r ++ x) t.last ∙ sym (last-more q M x (omega arith) (omega arith))
          ∙ ap (λ (k : ℕ). data_tile k (M ++ x ∷ [])) (sym same);
      later = omega (arith, same, t.later);
    }

pub more_full : (first : ℕ) (M full : List (List ℕ)) (bytes x : List ℕ) (n : ℕ) → n + 1 ≡ 256 → AreTiles first M full bytes n
    → AreTiles first (M ++ x ∷ []) (full ++ (bytes ++ x) ∷ []) [] 0
more_full first M full bytes x n all t =
    let q = length M / 256 in
    let size : length (M ++ x ∷ []) ≡ length M + 1 = length_push M x in
    let next : length (M ++ x ∷ []) / 256 ≡ q + 1 = omega (arith, size, all, t.count) in
    let end : length (M ++ x ∷ []) ≡ 256 * (q + 1) = omega (arith, size, all, t.count) in
    let counted : q + 1 - first ≡ (q - first) + 1 = omega (arith, t.later) in
    let here : first + (q - first) ≡ q = omega (arith, t.later) in
    record {
      count = omega (arith, end);
      full_ones = ap (λ (f : List (List ℕ)). f ++ (bytes ++ x) ∷ []) (t.full_ones ∙ sym (tiles-stay first (q - first) M (x ∷ []) (omega (arith, t.later))))
          ∙ ap (λ (r : List ℕ). data_tiles_from first (q - first) (M ++ x ∷ []) ++ r ∷ [])
          (ap (λ (r : List ℕ). r ++ x) t.last ∙ sym (last-more q M x (omega arith) (omega arith)) ∙ ap (λ (k : ℕ). data_tile k (M ++ x ∷ [])) (sym here))
          ∙ sym (tiles-more first (q - first) (M ++ x ∷ []))
          ∙ ap (λ (k : ℕ). data_tiles_from first k (M ++ x ∷ [])) (sym counted)
          ∙ ap (λ (k : ℕ). data_tiles_from first (k - first) (M ++ x ∷ [])) (sym next);
      last = sym (ap (λ (k : ℕ). data_tile k (M ++ x ∷ [])) next
          ∙ last-tile (q + 1) (M ++ x ∷ []) (omega (arith, end))
          ∙ ap joined (nil_from_length (drop (256 * (q + 1)) (M ++ x ∷ [])) (omega (arith, end, length-drop (256 * (q + 1)) (M ++ x ∷ [])))));
      later = omega (arith, next, t.later);
    }

pub at_first : (L : List (List ℕ)) (size : ℕ) (bytes : List ℕ) (full : List (List ℕ)) → IsPartialTile L size bytes → full ≡ []
    → AreTiles (length L / 256) (L ++ []) full bytes (size % 256)
at_first L size bytes full p e =
    let same : L ++ [] ≡ L = append-nil L in
    let none : length (L ++ []) / 256 - length L / 256 ≡ 0 = omega (arith, ap length same) in
    record {
      count = ap (λ (n : ℕ). n % 256) (p.0 ∙ sym (ap length same));
      full_ones = e ∙ sym (ap (λ (k : ℕ). data_tiles_from (length L / 256) k (L ++ [])) none ∙ tiles-none (length L / 256) (L ++ []));
      last = p.1 ∙ ap (λ (M : List (List ℕ)). data_tile (length M / 256) M) (sym same);
      later = omega (arith, ap length same);
    }

abbrev pub text_in : Vec ℕ Global → List ℕ
text_in t = t.items

-- the texts that were added, with one more
pub texts-more : (L : List (List ℕ)) (i : ℕ) (E : List (Vec ℕ Global)) (t : Vec ℕ Global) → i < length E → t ≡ get_or E i t
    → L ++ map text_in (take (i + 1) E) ≡ (L ++ map text_in (take i E)) ++ t.items ∷ []
texts-more L i E t h is =
    let more : take (i + 1) E ≡ take i E ++ t ∷ [] = take_more E i t h ∙ ap (λ (x : Vec ℕ Global). take i E ++ x ∷ []) (sym is) in
    ap (λ (x : List (List ℕ)). L ++ x) (ap (map text_in) more ∙ map_push text_in (take i E) t)
    ∙ sym (append_assoc L (map text_in (take i E)) (t.items ∷ []))

pub moved : (first : ℕ) (M M' full full' : List (List ℕ)) (bytes bytes' : List ℕ) (n n' : ℕ) → M' ≡ M → full' ≡ full → bytes' ≡ bytes → n' ≡ n
    → AreTiles first M full bytes n → AreTiles first M' full' bytes' n'
moved first M M' full full' bytes bytes' n n' a b c d t = rw (a, b, c, d) t
