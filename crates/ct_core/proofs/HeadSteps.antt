-- Search of heads by their tree sizes, which never fall.
use Rattle.std.proofs.Common.{◌≡◌, ℕ, ◌+◌, ◌<◌, ◌≤◌, List, [], ◌∷◌, length, get_or, refl, ap, sym, ◌∙◌, inl, inr, arith}
use Rattle.std.proofs.lemmas.Bool.{cases_lt}
use Rattle.std.proofs.lemmas.Bool.Decides.{nat_tests}
use Rattle.std.proofs.lemmas.List.{get_or_default}
use Rattle.std.proofs.lemmas.List.Folds.{list_any_at, list_any_none, find_at}
use Rattle.std.proofs.lemmas.List.Sums.{position_or_len_is}
use Rattle.std.proofs.lemmas.Option.{slice_get_read}
use Rattle.std.specs.Prelude.{Bool, true, false, cond, ◌||◌, ◌==◌, Some, None, slice_get}
use Rattle.std.specs.List.{list_any, position_or_len, find}
use Rattle.std.specs.List.Sorted.{IsNonDecreasingBy}
use Rattle.ct_tree.specs.declared.head.Head.{Head}
use Rattle.ct_core.specs.Settlement.{Log, Lawful}

-- a read at an index within the list, with any default
size_at : (heads : List Head) (m : ℕ) (d r : Head) → m < length heads → r ≡ get_or heads m r → (get_or heads m d).tree_size ≡ r.tree_size
size_at heads m d r below e = ap (λ (h : Head). h.tree_size) (get_or_default heads m d r below ∙ sym e)

-- if a head is smaller than a size, each head before it is smaller too
pub below_middle : (heads : List Head) (n m i : ℕ) (d r : Head) → IsNonDecreasingBy (λ (h : Head). h.tree_size) heads → m < length heads
    → r ≡ get_or heads m r → r.tree_size < n → i < m + 1
    → (get_or heads i d).tree_size < n
below_middle heads n m i d r sorted inside e small low =
    let same = size_at heads m d r inside e in
    let most = sorted i m d (omega arith) inside in
    omega (arith, same, most)

-- if a head is at least a size, each head after it is at least that size too
pub above_middle : (heads : List Head) (n m i : ℕ) (d r : Head) → IsNonDecreasingBy (λ (h : Head). h.tree_size) heads → m < length heads
    → r ≡ get_or heads m r → n ≤ r.tree_size → m ≤ i → i < length heads
    → n ≤ (get_or heads i d).tree_size
above_middle heads n m i d r sorted inside e large high within =
    let same = size_at heads m d r inside e in
    let most = sorted m i d high within in
    omega (arith, same, most)

-- the heads before the index p are smaller than n, and no head from p on is
pub record IsPlaceOfSize (heads : List Head) (n p : ℕ) : Type 0 where
  pub below : (i : ℕ) (d : Head) → i < p → (get_or heads i d).tree_size < n
  pub above : (i : ℕ) (d : Head) → p ≤ i → i < length heads → n ≤ (get_or heads i d).tree_size

unequal_below : (a n : ℕ) → a < n → (a == n) ≡ false
unequal_below a n h = grind (arith, nat_tests)

unequal_above : (a n : ℕ) → n < a → (a == n) ≡ false
unequal_above a n h = grind (arith, nat_tests)

more_than : (a n : ℕ) → (a == n) ≡ false → n ≤ a → n < a
more_than a n e h = grind (arith, nat_tests)

is_equal : (a n : ℕ) → (a == n) ≡ true → n ≤ a × a ≤ n
is_equal a n e = (grind (arith, nat_tests), grind (arith, nat_tests))

-- if no head from p on has the size, no head has
none_sized : (heads : List Head) (n p : ℕ) → IsPlaceOfSize heads n p → ((i : ℕ) (d : Head) → p ≤ i → i < length heads → n < (get_or heads i d).tree_size)
    → list_any (λ (h : Head). h.tree_size == n) heads ≡ false
none_sized heads n p is more = list_any_none (λ (h : Head). h.tree_size == n) heads other
  where
    other : (i : ℕ) (d : Head) → i < length heads → ((get_or heads i d).tree_size == n) ≡ false
    other i d inside = elim (cases_lt i p) [
      | inl low ↦ unequal_below (get_or heads i d).tree_size n (is.below i d low)
      | inr high ↦ unequal_above (get_or heads i d).tree_size n (more i d high inside)
    ]

-- if p is past the last head, no head has the size
pub size_past : (heads : List Head) (n p : ℕ) → IsPlaceOfSize heads n p → length heads ≤ p → false ≡ list_any (λ (h : Head). h.tree_size == n) heads
size_past heads n p is past = sym (none_sized heads n p is (λ i d high inside. absurd (omega arith)))

-- some head has the size if and only if the head at p has it
pub size_found : (heads : List Head) (n p : ℕ) (r : Head) → IsNonDecreasingBy (λ (h : Head). h.tree_size) heads → IsPlaceOfSize heads n p
    → p < length heads → r ≡ get_or heads p r
    → (r.tree_size == n) ≡ list_any (λ (h : Head). h.tree_size == n) heads
size_found heads n p r sorted is inside e = by (r.tree_size == n) refl
  where
    by : (b : Bool) → (r.tree_size == n) ≡ b → b ≡ list_any (λ (h : Head). h.tree_size == n) heads
    by true same = sym (list_any_at (λ (h : Head). h.tree_size == n) heads p r inside (ap (λ (h : Head). h.tree_size == n) (sym e) ∙ same))
    by false other = sym (none_sized heads n p is later)
      where
        here : n ≤ r.tree_size
        here = let at = is.above p r (omega arith) inside in let same = size_at heads p r r inside e in omega (arith, at, same)

        later : (i : ℕ) (d : Head) → p ≤ i → i < length heads → n < (get_or heads i d).tree_size
        later i d high within =
            let first = more_than r.tree_size n other here in
            let same = size_at heads p d r inside e in
            let most = sorted p i d high within in
            omega (arith, first, same, most)

-- if the head at p has the size, it is the first that has
pub size_first : (heads : List Head) (n p : ℕ) (r : Head) → IsPlaceOfSize heads n p → p < length heads → r ≡ get_or heads p r
    → (r.tree_size == n) ≡ true → Some r ≡ find (λ (h : Head). h.tree_size == n) heads
size_first heads n p r is inside e same = sym (find_at sized heads ∙ ap (slice_get heads) place ∙ slice_get_read heads (length heads) p r refl inside e)
  where
    sized : Head → Bool
    sized h = h.tree_size == n

    here : (get_or heads p r).tree_size ≡ r.tree_size
    here = ap (λ (h : Head). h.tree_size) (sym e)

    place : position_or_len sized heads ≡ p
    place = position_or_len_is sized heads p r (omega (arith, inside)) (λ k low. unequal_below (get_or heads k r).tree_size n (is.below k r low))
        (λ _. ap (λ (k : ℕ). k == n) here ∙ same)

-- if no head has the size, there is no first head of that size
pub size_nowhere : (heads : List Head) (n : ℕ) → false ≡ list_any (λ (h : Head). h.tree_size == n) heads → None ≡ find (λ (h : Head). h.tree_size == n) heads
size_nowhere [] n e = refl
size_nowhere (h ∷ hs) n e = by (size_nowhere hs n) (h.tree_size == n) e
  where
    sized : Head → Bool
    sized g = g.tree_size == n

    by : (false ≡ list_any sized hs → None ≡ find sized hs) → (v : Bool) → false ≡ (v || list_any sized hs)
        → None ≡ cond v (Some h) (find sized hs)
    by rest true t = grind (arith, t)
    by rest false t = rest t

-- a size that a head has is at most the number of entries
pub size_within : (log : Log) (n p : ℕ) (r : Head) → Lawful log → p < length log.heads → r ≡ get_or log.heads p r
    → (r.tree_size == n) ≡ true → n ≤ length log.entries
size_within log n p r is inside e same =
    let true_head = is.true_heads p r inside in
    let within = true_head.within in
    let at = size_at log.heads p r r inside e in
    let (least, most) = is_equal r.tree_size n same in
    omega (arith, within, at, least, most)
