-- The cover of a range of leaves by at most two subtrees (as draft-ietf-plants-merkle-tree-certs, section 4.5).
use Rattle.std.specs.Prelude.{◌≡◌, ℕ, ◌+◌, ◌-◌, ◌*◌, ◌^◌, ◌<◌, ◌≤◌, Option, Some, None}
use Rattle.ct_subtrees.specs.declared.covering.Subtree.{Subtree}
use Rattle.ct_subtrees.specs.Subtrees.{IsSubtree}

-- w is a power of two
abbrev pub IsPower : ℕ → Type 0
IsPower w = (j : ℕ) × (w ≡ 2 ^ j)

-- Two adjacent subtrees cover the range [s, e) of leaves. The left one is full: the number of its leaves is a power of two, the smallest that
-- reaches s, so it may begin before the range. The right one ends with the range. It begins at the only index of the range after s that is a
-- multiple of some power of two. Each has a leaf of the range, and both have fewer than twice the leaves of the range
pub record IsCoverByTwo (s e : ℕ) (left right : Subtree) : Type 0 where
  pub left_is : IsSubtree left.start left.end
  pub right_is : IsSubtree right.start right.end
  pub full : IsPower (left.end - left.start)
  pub least : left.end - left.start < 2 * (left.end - s)
  pub adjacent : left.end ≡ right.start
  pub only : (j : ℕ) × ((q : ℕ) × (right.start ≡ q * 2 ^ j)) × ((x : ℕ) → s < x * 2 ^ j → x * 2 ^ j < e → x * 2 ^ j ≡ right.start)
  pub begins : left.start ≤ s
  pub in_left : s < left.end
  pub in_right : right.start < e
  pub ends : right.end ≡ e
  pub short : right.end - left.start < 2 * (e - s)

-- the subtrees that cover the range [s, e) of leaves: if it is one leaf, the subtree of this leaf, and otherwise two subtrees
abbrev pub IsCover : ℕ → ℕ → Option Subtree → Subtree → Type 0
IsCover s e None right = (e ≡ s + 1) × (right.start ≡ s) × (right.end ≡ e)
IsCover s e (Some left) right = IsCoverByTwo s e left right

-- m is above s and at most t, and a multiple of the power of two w. The w numbers before m reach s, and the w numbers from m on have t
pub record IsMiddle (s t m w : ℕ) : Type 0 where
  pub above : s < m
  pub within : m ≤ t
  pub reaches : m ≤ s + w
  pub has : t < m + w
  pub power : IsPower w
  pub multiple : (q : ℕ) × (m ≡ q * w)

-- w is the smallest power of two that is not below c, and v is a multiple of it
pub record IsLeastPower (c v w : ℕ) : Type 0 where
  pub enough : c ≤ w
  pub least : w < 2 * c
  pub power : IsPower w
  pub multiple : (k : ℕ) × (v ≡ k * w)
