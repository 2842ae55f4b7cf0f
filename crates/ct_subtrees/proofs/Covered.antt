-- The two subtrees around the middle of a range.
use Rattle.std.proofs.Common.{◌≡◌, ℕ, ◌+◌, ◌-◌, ◌*◌, ◌^◌, ◌<◌, ◌≤◌, refl, sym, ◌∙◌, ap, arith}
use Rattle.std.proofs.Math.Nat.{lt_of_mul-lt-mul_right}
use Rattle.ct_subtrees.specs.Cover.{IsPower, IsCoverByTwo, IsMiddle, IsLeastPower}
use Rattle.ct_subtrees.specs.Subtrees.{IsSubtree}
use Rattle.ct_subtrees.proofs.Halves.{power_some, before_block, one_block}

by_power : (s e q w : ℕ) → s < e → IsPower w → s ≡ q * w → e ≤ s + w → IsSubtree s e
by_power s e q w l (j, p) m h = (l, (j, q, m ∙ ap (λ (u : ℕ). q * u) p, omega (arith, h, p)))

times : (q k w v : ℕ) → v ≡ k * w → q * v ≡ q * k * w
times q k w v e = ap (λ (u : ℕ). q * u) e ∙ omega arith

one_multiple : (x q v m s t : ℕ) → m ≡ q * v → m ≤ s + v → t < m + v → s < x * v → x * v ≤ t → x * v ≡ m
one_multiple x q v m s t e low high after within =
    let next : (q + 1) * v ≡ q * v + v = omega arith in
    let after_x : (x + 1) * v ≡ x * v + v = omega arith in
    let a : x * v < (q + 1) * v = omega (arith, e, high, within, next) in
    let b : q * v < (x + 1) * v = omega (arith, e, low, after, after_x) in
    let c : x < q + 1 = lt_of_mul-lt-mul_right v a in
    let d : q < x + 1 = lt_of_mul-lt-mul_right v b in
    let same : x ≡ q = omega arith in
    ap (λ (u : ℕ). u * v) same ∙ sym e

pub covered : (s e m v w : ℕ) → s < e → IsMiddle s (e - 1) m v → IsLeastPower (m - s) v w
    → IsCoverByTwo s e (record { start = m - w; end = m }) (record { start = m; end = e })
covered s e m v w l mid p =
    let c = mid.multiple.0 * p.multiple.0 in
    let mult : m ≡ c * w = mid.multiple.1 ∙ times mid.multiple.0 p.multiple.0 w v p.multiple.1 in
    let some : 0 < w = power_some w p.power in
    let inside : w ≤ m = one_block c w m mult (omega (arith, mid.above)) in
    record {
      left_is = by_power (m - w) m (c - 1) w (omega (arith, some, inside)) p.power (before_block c w m mult) (omega (arith, inside));
      right_is = by_power m e mid.multiple.0 v (omega (arith, mid.within, l)) mid.power mid.multiple.1 (omega (arith, mid.has, l));
      full = (p.power.0, omega (arith, inside, p.power.1));
      least = omega (arith, p.least, inside);
      adjacent = refl;
      only = (
        mid.power.0,
        (mid.multiple.0, mid.multiple.1 ∙ ap (λ (u : ℕ). mid.multiple.0 * u) mid.power.1),
        λ x after within.
            let same : x * 2 ^ mid.power.0 ≡ x * v = ap (λ (u : ℕ). x * u) (sym mid.power.1) in
            same ∙ one_multiple x mid.multiple.0 v m s (e - 1) mid.multiple.1 mid.reaches mid.has (omega (arith, after, same)) (omega (arith, within, same)),
      );
      begins = omega (arith, p.enough);
      in_left = mid.above;
      in_right = omega (arith, mid.within, l);
      ends = refl;
      short = omega (arith, p.least, mid.above, mid.within, inside, l);
    }
