-- Numbers that are halved, and powers of two.
use Rattle.std.proofs.Common.{◌≡◌, ℕ, zero, suc, ◌+◌, ◌-◌, ◌*◌, ◌/◌, ◌%◌, ◌<◌, ◌≤◌, sym, subst, arith, ⊎_elim}
use Rattle.std.proofs.lemmas.Bool.{cases_lt}
use Rattle.std.proofs.lemmas.Nat.{pow_pos}
use Rattle.std.proofs.Math.Nat.{pow-suc, mul-le-mul_right}
use Rattle.ct_subtrees.specs.Cover.{IsPower}

-- ---- a block of w numbers, and the block of 2 * w numbers that it is in
pub low_up : (a w s : ℕ) → a * w ≤ s → a / 2 * (w * 2) ≤ s
low_up a w s h =
    let e : a ≡ 2 * (a / 2) + a % 2 = omega arith in
    parts (a / 2) (a % 2) (subst (λ (u : ℕ). u * w ≤ s) e h)
  where
    parts : (q r : ℕ) → (2 * q + r) * w ≤ s → q * (w * 2) ≤ s
    parts q r k = omega arith

pub high_up : (a w s : ℕ) → s < (a + 1) * w → s < (a / 2 + 1) * (w * 2)
high_up a w s h =
    ⊎_elim
    (λ (z : a % 2 < 1).
    let e : a + 1 ≡ 2 * (a / 2) + 1 = omega arith in
    even (a / 2) (subst (λ (u : ℕ). s < u * w) e h))
    (λ (o : 1 ≤ a % 2).
    let e : a + 1 ≡ 2 * (a / 2) + 2 = omega arith in
    odd (a / 2) (subst (λ (u : ℕ). s < u * w) e h))
    (cases_lt (a % 2) 1)
  where
    even : (q : ℕ) → s < (2 * q + 1) * w → s < (q + 1) * (w * 2)
    even q k = omega arith

    odd : (q : ℕ) → s < (2 * q + 2) * w → s < (q + 1) * (w * 2)
    odd q k = omega arith

-- ---- powers
pub power_some : (w : ℕ) → IsPower w → 0 < w
power_some w (j, e) = omega (arith, pow_pos j, e)

pub power_up : (w : ℕ) → IsPower w → IsPower (w * 2)
power_up w (j, e) = (suc j, omega (arith, e, pow-suc 2 j))

pub power_half : (w c : ℕ) → IsPower w → 0 < c → c ≤ w / 2 → IsPower (w / 2) × (w ≡ 2 * (w / 2))
power_half w c (zero, e) z h = absurd (omega (arith, e))
power_half w c (suc j, e) z h = ((j, omega (arith, e, pow-suc 2 j)), omega (arith, e, pow-suc 2 j))

pub fits_twice : (node w last : ℕ) → node * w ≤ last → 1 < node → w * 2 ≤ last
fits_twice node w last h two =
    let k : 2 * w ≤ node * w = mul-le-mul_right w two in
    omega (arith, h, k)

pub next_block : (a b w s : ℕ) → b ≡ a + 1 → a * w ≤ s → b * w ≤ s + w
next_block a b w s e h = subst (λ (u : ℕ). u * w ≤ s + w) (sym e) (omega (arith, h))

pub before_block : (c w m : ℕ) → m ≡ c * w → m - w ≡ (c - 1) * w
before_block zero w m e = omega (arith, e)
before_block (suc c) w m e =
    let f : suc c - 1 ≡ c = omega arith in
    let g : suc c * w ≡ c * w + w = omega arith in
    rw f (omega (arith, e, g))

pub one_block : (c w m : ℕ) → m ≡ c * w → 0 < m → w ≤ m
one_block zero w m e h = absurd (omega (arith, e))
one_block (suc c) w m e h = omega (arith, e)
