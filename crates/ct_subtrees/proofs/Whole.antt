-- The part of a split tree in which a range is, and the parts of a subtree.
use Rattle.std.proofs.Common.{◌≡◌, ℕ, zero, suc, ◌+◌, ◌-◌, ◌*◌, ◌^◌, ◌<◌, ◌≤◌, refl, ◌∙◌, ap, arith, ⊎_elim, inl, inr, true, false}
use Rattle.std.proofs.Math.Nat.{mul_comm, mul-sub, mul-le-mul_right, lt_of_mul-lt-mul_right, pow-le-pow_right, pow-suc}
use Rattle.std.proofs.lemmas.Bool.{both_ways, cases_lt, lt-ltb, le-ltb}
use Rattle.std.proofs.lemmas.Nat.{pow-add, pow_pos}
use Rattle.ct_tree.proofs.Split.{IsPower, power_pos}
use Rattle.ct_tree.specs.Tree.{split}
use Rattle.ct_subtrees.specs.Subtrees.{IsSubtree, is_whole}

pub whole_is : (s e n : ℕ) → s ≡ 0 → n ≤ e → is_whole s e n ≡ true
whole_is s e n z l = rw (z, le-ltb e n l) refl

pub part_starts : (s e n : ℕ) → 0 < s → is_whole s e n ≡ false
part_starts s e n l = rw (lt-ltb 0 s l) refl

pub part_ends : (s e n : ℕ) → e < n → is_whole s e n ≡ false
part_ends s e n l =
    ⊎_elim
    (λ (h : 0 < s). part_starts s e n h)
    (λ (h : s ≤ 0). rw (le-ltb 0 s h, lt-ltb e n l) refl)
    (cases_lt 0 s)

-- where [s, e) is in a tree of n leaves: it is the whole tree, or it is in one part, or it has leaves of both parts
pub data Part (s e n : ℕ) : Type 0 where
  all : s ≡ 0 → e ≡ n → Part s e n
  first_part : 1 < n → is_whole s e n ≡ false → e ≤ split n → Part s e n
  second_part : 1 < n → is_whole s e n ≡ false → split n ≤ s → Part s e n
  both_parts : 1 < n → is_whole s e n ≡ false → s < split n → split n < e → Part s e n

some_part : (s e n : ℕ) → 1 < n → is_whole s e n ≡ false → Part s e n
some_part s e n l w =
    ⊎_elim
    (λ (over : split n < e). ⊎_elim
    (λ (before : s < split n). both_parts l w before over)
    (λ (behind : split n ≤ s). second_part l w behind)
    (cases_lt s (split n)))
    (λ (within : e ≤ split n). first_part l w within)
    (cases_lt (split n) e)

pub part : (s e n : ℕ) → s < e → e ≤ n → Part s e n
part s e n l i =
    ⊎_elim
    (λ (h : 0 < s). some_part s e n (omega arith) (part_starts s e n h))
    (λ (h : s ≤ 0). ⊎_elim
    (λ (less : e < n). some_part s e n (omega arith) (part_ends s e n less))
    (λ (whole : n ≤ e). all (omega arith) (omega arith))
    (cases_lt e n))
    (cases_lt 0 s)

-- ---- a subtree that is in the right part, or that has leaves of both parts
higher_power : (a j k : ℕ) → k ≡ 2 ^ a → a < j → 2 * k ≤ 2 ^ j
higher_power a j k e l =
    let z : 0 < 2 = omega arith in
    let i : suc a ≤ j = l in
    omega (arith, e, pow-suc 2 a, pow-le-pow_right z i)

pub lower_power : (a j k : ℕ) → k ≡ 2 ^ a → j ≤ a → k ≡ 2 ^ (a - j) * 2 ^ j
lower_power a j k e l =
    let i : a ≡ (a - j) + j = omega arith in
    e ∙ ap (λ v. 2 ^ v) i ∙ pow-add 2 (a - j) j

no_times : (p : ℕ) → 0 * p ≡ 0
no_times p = omega arith

sub_times : (q t p : ℕ) → (q - t) * p ≡ q * p - t * p
sub_times q t p = mul_comm (q - t) p ∙ mul-sub p q t ∙ rw (mul_comm p q, mul_comm p t) refl

pub subtree_right : (s e k : ℕ) → IsSubtree s e → IsPower k → k ≤ s → s < 2 * k → IsSubtree (s - k) (e - k)
subtree_right s e k (l, (j, q, is, end)) p low high =
    ⊎_elim
    (λ (h : p.exponent < j).
    absurd (⊎_elim
    (λ (some : 0 < q).
    let one : 1 * 2 ^ j ≤ q * 2 ^ j = mul-le-mul_right (2 ^ j) some in
    omega (arith, is, one, higher_power p.exponent j k p.is h))
    (λ (none : q ≤ 0).
    let z : q ≡ 0 = omega arith in
    let y : q * 2 ^ j ≡ 0 = ap (λ v. v * 2 ^ j) z ∙ no_times (2 ^ j) in
    omega (arith, is, y, power_pos k p))
    (cases_lt 0 q)))
    (λ (h : j ≤ p.exponent).
    let t = 2 ^ (p.exponent - j) in
    let i = lower_power p.exponent j k p.is h in
    let d : s - k ≡ (q - t) * 2 ^ j = omega (arith, is, i, sub_times q t (2 ^ j)) in
    (omega arith, (j, q - t, d, omega arith)))
    (cases_lt p.exponent j)

pub subtree_both : (s e k : ℕ) → IsSubtree s e → IsPower k → s < k → k < e → s ≡ 0
subtree_both s e k (l, (j, q, is, end)) p before over =
    ⊎_elim
    (λ (h : j ≤ p.exponent).
    let t = 2 ^ (p.exponent - j) in
    let i = lower_power p.exponent j k p.is h in
    let below : q * 2 ^ j < t * 2 ^ j = omega (arith, is, i) in
    let less : q < t = lt_of_mul-lt-mul_right (2 ^ j) below in
    let next : (q + 1) * 2 ^ j ≤ t * 2 ^ j = mul-le-mul_right (2 ^ j) (let f : q + 1 ≤ t = omega arith in f) in
    let split_next : (q + 1) * 2 ^ j ≡ q * 2 ^ j + 2 ^ j = mul_comm (q + 1) (2 ^ j) ∙ grind (arith, mul_comm) in
    absurd (omega (arith, is, i, next, split_next)))
    (λ (h : p.exponent < j).
    ⊎_elim
    (λ (some : 0 < q).
    let one : 1 * 2 ^ j ≤ q * 2 ^ j = mul-le-mul_right (2 ^ j) some in
    absurd (omega (arith, is, one, higher_power p.exponent j k p.is h)))
    (λ (none : q ≤ 0).
    let z : q ≡ 0 = omega arith in
    is ∙ ap (λ v. v * 2 ^ j) z ∙ no_times (2 ^ j))
    (cases_lt 0 q))
    (⊎_elim (λ (h : p.exponent < j). inr h) (λ (h : j ≤ p.exponent). inl h) (cases_lt p.exponent j))

own_power : (e : ℕ) → e ≤ 2 ^ e
own_power zero = omega arith
own_power (suc e) = omega (arith, own_power e, pow-suc 2 e, pow_pos e)

-- the first leaves are a subtree
pub subtree_first : (e : ℕ) → 0 < e → IsSubtree 0 e
subtree_first e l = (l, (e, 0, omega arith, omega (arith, own_power e)))

-- a subtree that begins with the first leaf, and is not the whole tree, ends before the last
pub first_ends : (s e n : ℕ) → s ≡ 0 → is_whole s e n ≡ false → e < n
first_ends s e n z w =
    ⊎_elim
    (λ (l : e < n). l)
    (λ (g : n ≤ e). absurd (both_ways (is_whole s e n) w (whole_is s e n z g)))
    (cases_lt e n)

-- what the test for the whole tree means
pub whole_means : (s e n : ℕ) → is_whole s e n ≡ true → (s ≡ 0) × (n ≤ e)
whole_means s e n w =
    ⊎_elim
    (λ (h : 0 < s). absurd (both_ways (is_whole s e n) (part_starts s e n h) w))
    (λ (h : s ≤ 0). ⊎_elim
    (λ (less : e < n). absurd (both_ways (is_whole s e n) (part_ends s e n less) w))
    (λ (whole : n ≤ e). (omega arith, whole))
    (cases_lt e n))
    (cases_lt 0 s)

-- a tree has more than one leaf if a range in it is not the whole tree
pub many : (s e n : ℕ) → s < e → e ≤ n → is_whole s e n ≡ false → 1 < n
many s e n l i w =
    ⊎_elim
    (λ (h : 1 < n). h)
    (λ (h : n ≤ 1). absurd (both_ways (is_whole s e n) w (whole_is s e n (omega arith) (omega arith))))
    (cases_lt 1 n)
