-- The byte offsets of the parts of a tile leaf.
use Rattle.std.proofs.Common.{◌≡◌, ◌∙◌, ◌+◌, ◌≤◌, ◌<◌, ◌^◌, ℕ, List, [], ◌∷◌, ◌++◌, length, map, refl, sym, ap, arith, length-append, append_assoc, append-nil}
use Rattle.std.proofs.lemmas.Grind.{flat_map-append}
use Rattle.std.proofs.lemmas.List.{map-append}
use Rattle.ct_codec.specs.Bytes.{num, vec}
use Rattle.ct_codec.specs.Parts.{joined}
use Rattle.ct_codec.specs.Leaf.{SignedEntry, certificate, precertificate, IsEntry, entry_text, timestamped_text}
use Rattle.ct_codec.proofs.Refusals.{length-num, length-vec}
use Rattle.ct_data_tiles.specs.TileLeaf.{Tiled, IsTileLeaf, beside_text, tile_leaf_text}
use Rattle.ct_data_tiles.specs.DataTile.{tile_leaves_text}
use Rattle.ct_data_tiles.specs.TileEntries.{HasBytesAt, PlacesAreRight, submitted_of, submitted_place, timestamped_of, fingerprints_place, tile_entry_bytes, tile_entries_bytes}

-- the length of the parts of a timestamped entry
entry_length : (e : SignedEntry) → IsEntry e → length (entry_text e) < 2 ^ 24 + 37
entry_length (certificate c) h = omega (arith, length-append (num 2 0) (vec 3 c), length-num 2 0, length-vec 3 c, h.1)
entry_length (precertificate k c) h =
    omega (arith, length-append (num 2 1) (k ++ vec 3 c), length-num 2 1, length-append k (vec 3 c), length-vec 3 c, h.0, h.1.1)

pub timestamped_short : (l : Tiled) → IsTileLeaf l → length (timestamped_of l) < 2 ^ 32
timestamped_short l h =
    let E = entry_text l.entry in
    let X = vec 2 l.extensions in
    omega (arith, length-append (num 8 l.timestamp) (E ++ X), length-num 8 l.timestamp, length-append E X, length-vec 2 l.extensions, entry_length l.entry h.entry, h.extensions)

pub vector_length : (p : List ℕ) → 3 + length p ≡ length (vec 3 p)
vector_length p = sym (length-vec 3 p)

-- an offset in a tile leaf is at most its length
pub submitted_within : (l : Tiled) → IsTileLeaf l → submitted_place l.entry (length (timestamped_of l)) ≤ length (timestamped_of l) + length (beside_text l.entry l.precertificate)
submitted_within l h = within l.timestamp l.entry l.extensions l.precertificate
  where
    within : (t : ℕ) (e : SignedEntry) (x p : List ℕ) → submitted_place e (length (timestamped_text t e x)) ≤ length (timestamped_text t e x) + length (beside_text e p)
    within t (certificate c) x p =
        let E = entry_text (certificate c) in
        omega (arith, length-append (num 8 t) (E ++ vec 2 x), length-num 8 t, length-append E (vec 2 x), length-append (num 2 0) (vec 3 c), length-num 2 0, length-vec 3 c)
    within t (precertificate k c) x p = omega (arith, length-vec 3 p)

-- the length of a tile leaf
pub text_length : (l : Tiled) → length (tile_leaf_text l) ≡ fingerprints_place l + length l.fingerprints
text_length l =
    let P = beside_text l.entry l.precertificate in
    let F = vec 2 l.fingerprints in
    omega (arith, length-append (timestamped_of l) (P ++ F), length-append P F, length-vec 2 l.fingerprints)

-- the texts after the first ones of a list of tile leaves
pub texts_split : (L : List Tiled) (l : Tiled) (M : List Tiled) → tile_leaves_text (L ++ l ∷ M) ≡ tile_leaves_text L ++ (tile_leaf_text l ++ tile_leaves_text M)
texts_split L l M = ap joined (map-append tile_leaf_text L (l ∷ M)) ∙ flat_map-append (λ (p : List ℕ). p) (map tile_leaf_text L) (map tile_leaf_text (l ∷ M))

-- bytes that follow others are at the sum of the two lengths if these follow others, too
deeper : (before x rest y after : List ℕ) (tile : List ℕ) (place : ℕ) → tile ≡ before ++ (x ++ rest) → rest ≡ y ++ after → length x ≡ place
    → HasBytesAt tile (length before + place) y
deeper before x rest y after tile place e f h = (
  before ++ x,
  after,
  e ∙ ap (λ (r : List ℕ). before ++ (x ++ r)) f ∙ sym (append_assoc before x (y ++ after)),
  length-append before x ∙ ap (λ (n : ℕ). length before + n) h,
)

-- the submitted certificate or precertificate follows the bytes before its offset
submitted_in : (t : ℕ) (e : SignedEntry) (x p f r : List ℕ)
    → (front after : List ℕ) × ((timestamped_text t e x ++ (beside_text e p ++ f)) ++ r ≡ front ++ (submitted_of e p ++ after))
    × (length front ≡ submitted_place e (length (timestamped_text t e x)))
submitted_in t (certificate c) x p f r =
    let T = num 8 t in
    let N = num 3 (length c) in
    let X = vec 2 x in
    let after : List ℕ = X ++ (f ++ r) in (
      T ++ (num 2 0 ++ N),
      after,
      append_assoc (timestamped_text t (certificate c) x) f r
          ∙ append_assoc T ((num 2 0 ++ (N ++ c)) ++ X) (f ++ r)
          ∙ ap (λ (s : List ℕ). T ++ s) (append_assoc (num 2 0 ++ (N ++ c)) X (f ++ r) ∙ append_assoc (num 2 0) (N ++ c) after
          ∙ ap (λ (s : List ℕ). num 2 0 ++ s) (append_assoc N c after) ∙ sym (append_assoc (num 2 0) N (c ++ after)))
          ∙ sym (append_assoc T (num 2 0 ++ N) (c ++ after)),
      omega (arith, length-append T (num 2 0 ++ N), length-append (num 2 0) N, length-num 8 t, length-num 2 0, length-num 3 (length c)),
    )
submitted_in t (precertificate k c) x p f r =
    let S = timestamped_text t (precertificate k c) x in
    let N = num 3 (length p) in (
      S ++ N,
      f ++ r,
      append_assoc S ((N ++ p) ++ f) r
          ∙ ap (λ (s : List ℕ). S ++ s) (append_assoc (N ++ p) f r ∙ append_assoc N p (f ++ r))
          ∙ sym (append_assoc S N (p ++ (f ++ r))),
      omega (arith, length-append S N, length-num 3 (length p)),
    )

-- the fingerprints follow the bytes before their offset
fingerprints_in : (l : Tiled) (r : List ℕ) → (front : List ℕ) × (tile_leaf_text l ++ r ≡ front ++ (l.fingerprints ++ r)) × (length front ≡ fingerprints_place l)
fingerprints_in l r =
    let S = timestamped_of l in
    let P = beside_text l.entry l.precertificate in
    let N = num 2 (length l.fingerprints) in
    let F = l.fingerprints in (
      S ++ (P ++ N),
      append_assoc S (P ++ (N ++ F)) r
          ∙ ap (λ (s : List ℕ). S ++ s) (append_assoc P (N ++ F) r ∙ ap (λ (s : List ℕ). P ++ s) (append_assoc N F r) ∙ sym (append_assoc P N (F ++ r)))
          ∙ sym (append_assoc S (P ++ N) (F ++ r)),
      omega (arith, length-append S (P ++ N), length-append P N, length-num 2 (length F)),
    )

pub places_are_right : PlacesAreRight
places_are_right L l M tile h =
    let rest = tile_leaves_text M in
    let before = tile_leaves_text L in
    let whole = h.text ∙ texts_split L l M in
    let one = submitted_in l.timestamp l.entry l.extensions l.precertificate (vec 2 l.fingerprints) rest in
    let two = fingerprints_in l rest in (
      deeper before one.0 (submitted_of l.entry l.precertificate ++ one.1) (submitted_of l.entry l.precertificate) one.1 tile _ (whole ∙ ap (λ (s : List ℕ). before ++ s) one.2) refl one.3,
      deeper before two.0 (l.fingerprints ++ rest) l.fingerprints rest tile _ (whole ∙ ap (λ (s : List ℕ). before ++ s) two.1) refl two.2,
    )

-- ---- one more entry
pub no_entries : (start : ℕ) → tile_entries_bytes start [] ≡ []
unfolding tile_entries_bytes
no_entries start = refl

follow_from : (start : ℕ) (L : List Tiled) (l : Tiled)
    → tile_entries_bytes start (L ++ l ∷ []) ≡ tile_entries_bytes start L ++ tile_entry_bytes (start + length (tile_leaves_text L)) l
unfolding tile_entries_bytes
follow_from start [] l =
    let z : start ≡ start + 0 = omega arith in
    append-nil (tile_entry_bytes start l) ∙ ap (λ (n : ℕ). tile_entry_bytes n l) z
follow_from start (m ∷ L) l =
    let next = start + length (tile_leaf_text m) in
    let same : next + length (tile_leaves_text L) ≡ start + length (tile_leaves_text (m ∷ L)) =
    omega (arith, length-append (tile_leaf_text m) (tile_leaves_text L)) in
    ap (λ (s : List ℕ). tile_entry_bytes start m ++ s) (follow_from next L l ∙ ap (λ (n : ℕ). tile_entries_bytes next L ++ tile_entry_bytes n l) same)
    ∙ sym (append_assoc (tile_entry_bytes start m) (tile_entries_bytes next L) (tile_entry_bytes (start + length (tile_leaves_text (m ∷ L))) l))

pub entries_follow : (L : List Tiled) (l : Tiled) → tile_entries_bytes 0 (L ++ l ∷ []) ≡ tile_entries_bytes 0 L ++ tile_entry_bytes (length (tile_leaves_text L)) l
entries_follow L l =
    let z : 0 + length (tile_leaves_text L) ≡ length (tile_leaves_text L) = omega arith in
    follow_from 0 L l ∙ ap (λ (n : ℕ). tile_entries_bytes 0 L ++ tile_entry_bytes n l) z
