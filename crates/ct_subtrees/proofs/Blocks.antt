-- Ranges that begin a block of leaves, and their halves.
use Rattle.std.proofs.Common.{◌≡◌, ℕ, zero, suc, ◌+◌, ◌-◌, ◌*◌, ◌/◌, ◌%◌, ◌^◌, ◌<◌, ◌≤◌, ◌∙◌, ap, arith}
use Rattle.std.proofs.Math.Nat.{mul_left_comm, pow-suc}
use Rattle.ct_subtrees.specs.Subtrees.{IsSubtree}

-- c leaves from index s on begin a block of 2 ^ j leaves
abbrev pub IsBlock : ℕ → ℕ → Type 0
IsBlock s c = (j q : ℕ) × (s ≡ q * 2 ^ j) × (c ≤ 2 ^ j)

pub block_one : (s c : ℕ) → c ≤ 1 → IsBlock s c
block_one s c l = (0, s, omega arith, l)

power_suc : (j : ℕ) → 2 ^ suc j ≡ 2 * 2 ^ j
power_suc j = omega (arith, pow-suc 2 j)

twice : (q j : ℕ) → q * 2 ^ suc j ≡ 2 * (q * 2 ^ j)
twice q j = ap (λ v. q * v) (power_suc j) ∙ mul_left_comm q 2 (2 ^ j)

pub block_even : (s c : ℕ) → 1 < c → IsBlock s c → s % 2 ≡ 0
block_even s c l (zero, q, e, i) = absurd (omega arith)
block_even s c l (suc j, q, e, i) = omega (arith, e ∙ twice q j)

pub block_half : (s c : ℕ) → 1 < c → IsBlock s c → IsBlock (s / 2) (c / 2 + c % 2)
block_half s c l (zero, q, e, i) = absurd (omega arith)
block_half s c l (suc j, q, e, i) = (j, q, omega (arith, e ∙ twice q j), omega (arith, i, power_suc j))

pub block_twice : (s c : ℕ) → s % 2 ≡ 0 → IsBlock (s / 2) (c / 2 + c % 2) → IsBlock s c
block_twice s c even (j, q, e, i) = (suc j, q, omega (arith, e, twice q j), omega (arith, i, power_suc j))

pub subtree_block : (s e : ℕ) → IsSubtree s e → IsBlock s (e - s)
subtree_block s e w = (w.1.0, w.1.1, w.1.2, omega (arith, w.1.3))

pub block_subtree : (s e : ℕ) → s < e → IsBlock s (e - s) → IsSubtree s e
block_subtree s e l w = (l, (w.0, w.1, w.2, omega (arith, w.3)))
