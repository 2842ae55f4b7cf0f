-- The positions of the objects of a staged batch in it.
use Rattle.std.proofs.Common.{◌≡◌, ◌∙◌, ◌+◌, ◌<◌, ◌≤◌, ℕ, zero, suc, List, [], ◌∷◌, ◌++◌, length, map, take, drop, get_or, All, refl, sym, subst, ap, arith, append_assoc, length-append}
use Rattle.std.proofs.lemmas.List.{take_more, take_all, map_push}
use Rattle.std.proofs.lemmas.Simd.{map-map}
use Rattle.sha2.specs.Sha256.{sha256}
use Rattle.ct_codec.specs.Bytes.{num, vec}
use Rattle.ct_codec.proofs.Refusals.{length-num}
use Rattle.ct_step.specs.Bundle.{bundled_text, bundle_text, IsBundleOf}
use Rattle.ct_step.specs.Resumed.{object_parts}
use Rattle.ct_step.specs.declared.bundle.Object.{Object}
use Rattle.ct_step.specs.RolledOut.{ReferencesAreSlices}
use Rattle.ct_step.specs.StepWords.{IsTileName, Reference, object_size, bundle_size, reference_at, references_from, references_of, slice_at, place_parts}
use Rattle.ct_step.specs.declared.places.Place.{Place}

abbrev Parts : Type 0
Parts = List ℕ × List ℕ

-- a position that is not used, for places that need a default value
abbrev pub no_place : Place
no_place = record { name = record { ref_ptr = (0, 0); now = [] }; start = 0; length = 0; digest = [] }

-- the same of an object
abbrev pub no_object : Object
no_object = record { name = record { ref_ptr = (0, 0); now = [] }; content = record { ref_ptr = (0, 0); now = [] } }

-- ---- one more object

one_more : (H : List ℕ → List ℕ) (place : ℕ) (xs : List Parts) (o : Parts)
    → references_from H place (xs ++ o ∷ []) ≡ references_from H place xs ++ reference_at H (place + bundle_size xs) o ∷ []
one_more H place [] o = ap (λ (n : ℕ). reference_at H n o ∷ []) (omega arith)
one_more H place (x ∷ xs) o =
    let at : place + object_size x + bundle_size xs ≡ place + (object_size x + bundle_size xs) = omega arith in
    ap (λ (l : List Reference). reference_at H place x ∷ l)
    (one_more H (place + object_size x) xs o ∙ ap (λ (n : ℕ). references_from H (place + object_size x) xs ++ reference_at H n o ∷ []) at)

size_more : (xs : List Parts) (o : Parts) → bundle_size (xs ++ o ∷ []) ≡ bundle_size xs + object_size o
size_more [] o = omega arith
size_more (x ∷ xs) o = omega (arith, size_more xs o)

size_within : (xs : List Parts) (o : Parts) (ys : List Parts) → bundle_size (xs ++ o ∷ ys) ≡ bundle_size xs + object_size o + bundle_size ys
size_within [] o ys = omega arith
size_within (x ∷ xs) o ys = omega (arith, size_within xs o ys)

-- the first objects are at these positions, and the next one begins after them
abbrev pub ArePlaced : List Object → ℕ → List Place → Type 0
ArePlaced E end places = (end ≡ bundle_size (map object_parts E)) × (map place_parts places ≡ references_of sha256 (map object_parts E))

taken_more : (E : List Object) (i : ℕ) (d : Object) → i < length E
    → map object_parts (take (i + 1) E) ≡ map object_parts (take i E) ++ object_parts (get_or E i d) ∷ []
taken_more E i d h = ap (map object_parts) (take_more E i d h) ∙ map_push object_parts (take i E) (get_or E i d)

pub placed_more : (E : List Object) (i end next : ℕ) (d : Object) (p : Place) (places after : List Place) → i < length E
    → ArePlaced (take i E) end places → after ≡ places ++ p ∷ [] → place_parts p ≡ reference_at sha256 end (object_parts (get_or E i d))
    → next ≡ end + object_size (object_parts (get_or E i d)) → ArePlaced (take (i + 1) E) next after
placed_more E i end next d p places after h placed pushed here moved =
    let xs = map object_parts (take i E) in
    let o = object_parts (get_or E i d) in
    let more = taken_more E i d h in
    let begins : bundle_size xs ≡ 0 + bundle_size xs = omega arith in
    let same : references_of sha256 xs ++ reference_at sha256 (0 + bundle_size xs) o ∷ [] ≡ references_of sha256 (map object_parts (take (i + 1) E)) =
    sym (one_more sha256 0 xs o) ∙ ap (references_from sha256 0) (sym more) in (
      moved ∙ ap (λ (n : ℕ). n + object_size o) placed.0 ∙ sym (size_more xs o) ∙ ap bundle_size (sym more),
      ap (map place_parts) pushed
          ∙ map_push place_parts places p
          ∙ ap (λ (l : List Reference). l ++ place_parts p ∷ []) placed.1
          ∙ ap (λ (r : Reference). references_of sha256 xs ++ r ∷ []) (here ∙ ap (λ (n : ℕ). reference_at sha256 n o) (placed.0 ∙ begins))
          ∙ same,
    )

-- the position of an object whose content has this digest
pub hashed_place : (E : List Object) (i end : ℕ) (digest : List ℕ) → digest ≡ sha256 (get_or E i no_object).content.now
    → place_parts (record {
      name = (get_or E i no_object).name;
      start = end + (6 + length (get_or E i no_object).name.now);
      length = length (get_or E i no_object).content.now;
      digest = digest;
    }) ≡ reference_at sha256 end (object_parts (get_or E i no_object))
hashed_place E i end digest is =
    let o : Object = get_or E i no_object in
    ap (λ (h : List ℕ). record { name = o.name.now; start = end + (6 + length o.name.now); size = length o.content.now; digest = h })
    is

pub placed_all : (E : List Object) (i end : ℕ) (places : List Place) → length E ≤ i → ArePlaced (take i E) end places
    → map place_parts places ≡ references_of sha256 (map object_parts E)
placed_all E i end places h placed = placed.1 ∙ ap (λ (x : List Object). references_of sha256 (map object_parts x)) (take_all i E h)

size_of_taken : (E : List Object) (k : ℕ) → bundle_size (map object_parts (take k E)) ≤ bundle_size (map object_parts E)
size_of_taken [] zero = omega arith
size_of_taken [] (suc k) = omega arith
size_of_taken (x ∷ E) zero = omega arith
size_of_taken (x ∷ E) (suc k) = omega (arith, size_of_taken E k)

-- the offset after an object is within the staged batch
pub fits_in : (E : List Object) (i end : ℕ) (d : Object) (places : List Place) → i < length E → ArePlaced (take i E) end places
    → end + (6 + length (get_or E i d).name.now + length (get_or E i d).content.now) ≤ bundle_size (map object_parts E)
fits_in E i end d places h placed =
    omega (
      arith,
      placed.0,
      size_more (map object_parts (take i E)) (object_parts (get_or E i d)),
      ap bundle_size (taken_more E i d h),
      size_of_taken E (i + 1),
    )

-- ---- the names

names_from : (H : List ℕ → List ℕ) (place : ℕ) (xs : List Parts) → map (λ r. r.name) (references_from H place xs) ≡ map (λ o. o.0) xs
names_from H place [] = refl
names_from H place (x ∷ xs) = ap (λ l. x.0 ∷ l) (names_from H (place + object_size x) xs)

-- if the objects have the names of tiles, their positions have them, too
pub places_named : (E : List Object) (places : List Place) → map place_parts places ≡ references_of sha256 (map object_parts E)
    → All IsTileName (map (λ o. (object_parts o).0) E) → All IsTileName (map (λ p. (place_parts p).name) places)
places_named E places same all =
    let names : map (λ (p : Place). (place_parts p).name) places ≡ map (λ (o : Object). (object_parts o).0) E =
    sym (map-map (λ (r : Reference). r.name) place_parts places) ∙ ap (map (λ (r : Reference). r.name)) same
    ∙ names_from sha256 0 (map object_parts E) ∙ map-map (λ (o : Parts). o.0) object_parts E in
    subst (All IsTileName) (sym names) all

-- ---- the bytes

num_size : (n : ℕ) (bs : List ℕ) (k : ℕ) → length (num k n ++ bs) ≡ k + length bs
num_size n bs k = length-append (num k n) bs ∙ ap (λ (m : ℕ). m + length bs) (length-num k n)

-- the bytes of an object before its content
abbrev front : Parts → List ℕ
front o = vec 2 o.0 ++ num 4 (length o.1)

front_size : (o : Parts) → length (front o) ≡ 6 + length o.0
front_size o = omega (arith, length-append (vec 2 o.0) (num 4 (length o.1)), num_size (length o.0) o.0 2, length-num 4 (length o.1))

bundled_parts : (o : Parts) → bundled_text o ≡ front o ++ o.1
bundled_parts o = sym (append_assoc (vec 2 o.0) (num 4 (length o.1)) o.1)

text_size : (o : Parts) → length (bundled_text o) ≡ object_size o
text_size o = omega (arith, ap length (bundled_parts o), length-append (front o) o.1, front_size o)

pub bundle_length : (xs : List Parts) → length (bundle_text xs) ≡ bundle_size xs
bundle_length [] = refl
bundle_length (x ∷ xs) = omega (arith, length-append (bundled_text x) (bundle_text xs), text_size x, bundle_length xs)

pub sized : (xs : List Parts) (bytes : List ℕ) → IsBundleOf xs bytes → bundle_size xs ≡ length bytes
sized xs bytes is = sym (ap length is.text ∙ bundle_length xs)

cut : (a b c : List ℕ) → take (length b) (drop (length a) (a ++ (b ++ c))) ≡ b
cut [] [] c = refl
cut [] (x ∷ b) c = ap (λ l. x ∷ l) (cut [] b c)
cut (x ∷ a) b c = cut a b c

slice_is : (before : List ℕ) (o : Parts) (rest : List ℕ)
    → take (length o.1) (drop (length before + (6 + length o.0)) (before ++ (bundled_text o ++ rest))) ≡ o.1
slice_is before o rest =
    let all : before ++ (bundled_text o ++ rest) ≡ (before ++ front o) ++ (o.1 ++ rest) =
    ap (λ (t : List ℕ). before ++ (t ++ rest)) (bundled_parts o) ∙ ap (λ (t : List ℕ). before ++ t) (append_assoc (front o) o.1 rest)
    ∙ sym (append_assoc before (front o) (o.1 ++ rest)) in
    let at : length before + (6 + length o.0) ≡ length (before ++ front o) = omega (arith, length-append before (front o), front_size o) in
    ap (λ (n : ℕ). take (length o.1) (drop n (before ++ (bundled_text o ++ rest)))) at
    ∙ ap (λ (t : List ℕ). take (length o.1) (drop (length (before ++ front o)) t)) all
    ∙ cut (before ++ front o) o.1 rest

slices : (H : List ℕ → List ℕ) (before : List ℕ) (xs : List Parts) → map (slice_at (before ++ bundle_text xs)) (references_from H (length before) xs) ≡ xs
slices H before [] = refl
slices H before (o ∷ xs) =
    let t = before ++ (bundled_text o ++ bundle_text xs) in
    let next : length before + object_size o ≡ length (before ++ bundled_text o) = omega (arith, length-append before (bundled_text o), text_size o) in
    let same : t ≡ (before ++ bundled_text o) ++ bundle_text xs = sym (append_assoc before (bundled_text o) (bundle_text xs)) in
    let behind : map (slice_at t) (references_from H (length before + object_size o) xs) ≡ xs =
    ap (λ (n : ℕ). map (slice_at t) (references_from H n xs)) next
    ∙ ap (λ (u : List ℕ). map (slice_at u) (references_from H (length (before ++ bundled_text o)) xs)) same
    ∙ slices H (before ++ bundled_text o) xs in
    ap (λ (l : List Parts). (o.0, take (length o.1) (drop (length before + (6 + length o.0)) t)) ∷ l) behind
    ∙ ap (λ (c : List ℕ). (o.0, c) ∷ xs) (slice_is before o (bundle_text xs))

digests : (H : List ℕ → List ℕ) (place : ℕ) (xs : List Parts) → map (λ r. r.digest) (references_from H place xs) ≡ map (λ o. H o.1) xs
digests H place [] = refl
digests H place (x ∷ xs) = ap (λ l. H x.1 ∷ l) (digests H (place + object_size x) xs)

pub references_are_slices : ReferencesAreSlices
references_are_slices H objects bytes is =
    (ap (λ (t : List ℕ). map (slice_at t) (references_of H objects)) is.text ∙ slices H [] objects, digests H 0 objects)
