-- The parts of a tree on the walk from its root down to a subtree.
use Rattle.std.proofs.Common.{◌≡◌, ℕ, zero, suc, ◌+◌, ◌-◌, ◌^◌, ◌<◌, ◌≤◌, refl, sym, ◌∙◌, ap, arith, ⊎_elim, if◌then◌else◌, cond, Bool, true, false, List, [], ◌∷◌, subst}
use Rattle.std.proofs.Math.Nat.{pow-le-pow_right}
use Rattle.std.proofs.lemmas.Bool.{both_ways, cases_lt, lt-ltb, le-ltb}
use Rattle.ct_tree.proofs.Split.{split_is, split_lt, split_half}
use Rattle.ct_tree.specs.Tree.{split}
use Rattle.ct_subtrees.specs.Subtrees.{is_whole, subtree_length}
use Rattle.ct_subtrees.specs.Walk.{is_split, part_below, part_at, PartYields}
use Rattle.ct_subtrees.specs.declared.descent.Part.{Part}
use Rattle.ct_subtrees.proofs.Whole.{Part as Case, all, first_part, second_part, both_parts, part, whole_is, whole_means, many}
use Rattle.ct_subtrees.proofs.Down.{roots-known, roots-given}
use Rattle.ct_subtrees.proofs.Length.{length-whole, length-left, length-right, length-both}

abbrev pub whole_part : Part → Bool
whole_part t = is_whole t.place.start t.place.end t.place.size

turned : (w : Bool) → (if w then false else true) ≡ true → w ≡ false
turned true f = sym f
turned false f = refl

turned_back : (w : Bool) → (if w then false else true) ≡ false → w ≡ true
turned_back true f = refl
turned_back false f = sym f

pub split_means : (t : Part) → is_split t ≡ true → whole_part t ≡ false
split_means t f = turned (whole_part t) f

pub whole_if : (t : Part) → is_split t ≡ false → whole_part t ≡ true
whole_if t f = turned_back (whole_part t) f

pub split_if : (t : Part) → whole_part t ≡ false → is_split t ≡ true
split_if t w = rw w refl

-- ---- one level down
pub below-whole : (t : Part) → whole_part t ≡ true → t ≡ part_below t
unfolding part_below
below-whole t w = rw w refl

abbrev pub left_half : Part → ℕ → Part
left_half t k = record { place = record { start = t.place.start; end = t.place.end; size = k }; known = t.known }

abbrev pub right_half : Part → ℕ → Part
right_half t k = record { place = record { start = t.place.start - k; end = t.place.end - k; size = t.place.size - k }; known = t.known }

abbrev pub joined_half : Part → ℕ → Part
joined_half t k = record { place = record { start = 0; end = t.place.end - k; size = t.place.size - k }; known = false }

pub below-left : (t : Part) (k : ℕ) → whole_part t ≡ false → k ≡ split t.place.size → t.place.end ≤ k → left_half t k ≡ part_below t
unfolding part_below
below-left t k w f l = rw (w, sym f, le-ltb k t.place.end l) refl

pub below-right : (t : Part) (k : ℕ) → whole_part t ≡ false → k ≡ split t.place.size → k ≤ t.place.start → t.place.start < t.place.end
    → right_half t k ≡ part_below t
unfolding part_below
below-right t k w f l i =
    let over : k < t.place.end = omega arith in
    rw (w, sym f, lt-ltb k t.place.end over, le-ltb t.place.start k l) refl

pub below-both : (t : Part) (k : ℕ) → whole_part t ≡ false → k ≡ split t.place.size → t.place.start < k → k < t.place.end
    → joined_half t k ≡ part_below t
unfolding part_below
below-both t k w f before over = rw (w, sym f, lt-ltb k t.place.end over, lt-ltb t.place.start k before) refl

-- the range has leaves, and they are in the part
abbrev pub Fits : Part → Type 0
Fits t = (t.place.start < t.place.end) × (t.place.end ≤ t.place.size)

abbrev pub length_in : Part → ℕ
length_in t = subtree_length t.place.start t.place.end t.place.size t.known

case_of : (t : Part) → Fits t → Case t.place.start t.place.end t.place.size
case_of t f = part t.place.start t.place.end t.place.size f.0 f.1

fits_case : (t : Part) → Fits t → Case t.place.start t.place.end t.place.size → Fits (part_below t)
fits_case t f (all z g) = subst Fits (below-whole t (whole_is t.place.start t.place.end t.place.size z (omega arith))) f
fits_case t f (first_part m w low) = subst Fits (below-left t (split t.place.size) w refl low) (f.0, low)
fits_case t f (second_part m w high) =
    subst Fits (below-right t (split t.place.size) w refl high f.0) (omega (arith, f.0, high), omega (arith, f.0, f.1, high))
fits_case t f (both_parts m w before over) =
    subst Fits (below-both t (split t.place.size) w refl before over) (omega (arith, over), omega (arith, f.1, over))

pub fits_below : (t : Part) → Fits t → Fits (part_below t)
fits_below t f = fits_case t f (case_of t f)

length_case : (t : Part) → Fits t → whole_part t ≡ false → Case t.place.start t.place.end t.place.size → length_in t ≡ suc (length_in (part_below t))
length_case t f v (all z g) = absurd (both_ways (whole_part t) v (whole_is t.place.start t.place.end t.place.size z (omega arith)))
length_case t f v (first_part m w low) =
    length-left t.place.start t.place.end t.place.size t.known f.0 f.1 m w low
    ∙ ap (λ (u : Part). suc (length_in u)) (below-left t (split t.place.size) w refl low)
length_case t f v (second_part m w high) =
    length-right t.place.start t.place.end t.place.size t.known f.0 f.1 m w high
    ∙ ap (λ (u : Part). suc (length_in u)) (below-right t (split t.place.size) w refl high f.0)
length_case t f v (both_parts m w before over) =
    length-both t.place.start t.place.end t.place.size t.known f.0 f.1 m w before over
    ∙ ap (λ (u : Part). suc (length_in u)) (below-both t (split t.place.size) w refl before over)

pub length_below : (t : Part) → Fits t → is_split t ≡ true → length_in t ≡ suc (length_in (part_below t))
length_below t f v = length_case t f (split_means t v) (case_of t f)

-- ---- some levels down
pub at-root : (t : Part) → t ≡ part_at 0 t
unfolding part_at
at-root t = refl

pub at-next : (d : ℕ) (t : Part) → part_below (part_at d t) ≡ part_at (d + 1) t
unfolding part_at
at-next d t = let e : d + 1 ≡ suc d = omega arith in rw e refl

pub fits_at : (d : ℕ) (t : Part) → Fits t → Fits (part_at d t)
unfolding part_at
fits_at zero t f = f
fits_at (suc d) t f = fits_below (part_at d t) (fits_at d t f)

pub length_at : (d : ℕ) (t : Part) → Fits t → ((i : ℕ) → i < d → is_split (part_at i t) ≡ true) → length_in t ≡ d + length_in (part_at d t)
unfolding part_at
length_at zero t f s = omega arith
length_at (suc d) t f s =
    omega (arith, length_at d t f (λ i l. s i (omega arith)), length_below (part_at d t) (fits_at d t f) (s d (omega arith)))

-- all parts down to a depth are split, if the part there is split and those above it are
pub split_next : (d : ℕ) (t : Part) → ((i : ℕ) → i < d → is_split (part_at i t) ≡ true) → is_split (part_at d t) ≡ true
    → (i : ℕ) → i < d + 1 → is_split (part_at i t) ≡ true
split_next d t s last i l =
    ⊎_elim
    (λ (less : i < d). s i less)
    (λ (most : d ≤ i). let e : d ≡ i = omega arith in subst (λ v. is_split (part_at v t) ≡ true) e last)
    (cases_lt i d)

-- ---- the lowest part, which is all in the subtree
length_whole_part : (t : Part) → Fits t → is_split t ≡ false → length_in t ≡ cond t.known 0 1
length_whole_part t f s =
    let w = whole_means t.place.start t.place.end t.place.size (whole_if t s) in
    length-whole t.place.start t.place.end t.place.size t.known f.0 w.0 (omega (arith, f.1, w.1))

module _ (H : List ℕ → List ℕ) where
  pub yields_known : (t : Part) (r : List ℕ) → is_split t ≡ false → t.known ≡ true → PartYields H t r [] (r, r)
  yields_known t r s k = rw k (roots-known H t.place.start t.place.end t.place.size r (whole_if t s))

  pub yields_given : (t : Part) (r c : List ℕ) → is_split t ≡ false → t.known ≡ false → PartYields H t r (c ∷ []) (c, c)
  yields_given t r c s k = rw k (roots-given H t.place.start t.place.end t.place.size r c (whole_if t s))

pub length_known : (d : ℕ) (t : Part) → Fits t → ((i : ℕ) → i < d → is_split (part_at i t) ≡ true) → is_split (part_at d t) ≡ false
    → (part_at d t).known ≡ true → d ≡ length_in t
length_known d t f s w k =
    let a = length_whole_part (part_at d t) (fits_at d t f) w ∙ ap (λ b. cond b 0 1) k in
    omega (arith, length_at d t f s, a)

pub length_given : (d : ℕ) (t : Part) → Fits t → ((i : ℕ) → i < d → is_split (part_at i t) ≡ true) → is_split (part_at d t) ≡ false
    → (part_at d t).known ≡ false → suc d ≡ length_in t
length_given d t f s w k =
    let a = length_whole_part (part_at d t) (fits_at d t f) w ∙ ap (λ b. cond b 0 1) k in
    omega (arith, length_at d t f s, a)

-- ---- each level down halves the number that a part's size does not exceed
split_fits : (j n : ℕ) → 1 < n → n ≤ 2 ^ suc j → split n ≤ 2 ^ j
split_fits j n m l =
    let p = (split_is n m).power in
    ⊎_elim
    (λ (h : j < p.exponent).
    let two : 0 < 2 = omega arith in
    let i : suc j ≤ p.exponent = h in
    absurd (omega (arith, p.is, pow-le-pow_right two i, split_lt n m)))
    (λ (h : p.exponent ≤ j). let two : 0 < 2 = omega arith in omega (arith, p.is, pow-le-pow_right two h))
    (cases_lt j p.exponent)

size_case : (j : ℕ) (t : Part) → Fits t → whole_part t ≡ false → t.place.size ≤ 2 ^ suc j → Case t.place.start t.place.end t.place.size
    → (part_below t).place.size ≤ 2 ^ j
size_case j t f v l (all z g) = absurd (both_ways (whole_part t) v (whole_is t.place.start t.place.end t.place.size z (omega arith)))
size_case j t f v l (first_part m w low) =
    subst (λ (u : Part). u.place.size ≤ 2 ^ j) (below-left t (split t.place.size) w refl low) (split_fits j t.place.size m l)
size_case j t f v l (second_part m w high) =
    subst (λ (u : Part). u.place.size ≤ 2 ^ j) (below-right t (split t.place.size) w refl high f.0)
    (omega (arith, split_half t.place.size m, split_fits j t.place.size m l))
size_case j t f v l (both_parts m w before over) =
    subst (λ (u : Part). u.place.size ≤ 2 ^ j) (below-both t (split t.place.size) w refl before over)
    (omega (arith, split_half t.place.size m, split_fits j t.place.size m l))

pub halves_below : (d : ℕ) (t : Part) → d ≤ 64 → t.place.size ≤ 2 ^ (64 - d) → Fits t → is_split t ≡ true
    → (d < 64) × ((part_below t).place.size ≤ 2 ^ (64 - (d + 1)))
halves_below d t k l f s =
    let v = split_means t s in
    let m = many t.place.start t.place.end t.place.size f.0 f.1 v in
    ⊎_elim
    (λ (h : d < 64).
    let e : 64 - d ≡ suc (64 - (d + 1)) = omega arith in
    (h, size_case (64 - (d + 1)) t f v (subst (λ x. t.place.size ≤ 2 ^ x) e l) (case_of t f)))
    (λ (h : 64 ≤ d).
    let e : 64 - d ≡ 0 = omega arith in
    let one : t.place.size ≤ 1 = subst (λ x. t.place.size ≤ 2 ^ x) e l in
    absurd (omega (arith, m, one)))
    (cases_lt d 64)
