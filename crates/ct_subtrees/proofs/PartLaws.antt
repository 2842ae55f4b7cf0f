-- The theorems about what is made of subtrees.
use Rattle.std.proofs.Common.{◌≡◌, ℕ, ◌+◌, ◌-◌, ◌*◌, ◌^◌, ◌<◌, ◌≤◌, true, refl, sym, ◌∙◌, ap, arith, length, ⊎_elim, inl, inr}
use Rattle.std.proofs.lemmas.Bool.{cases_lt}
use Rattle.std.proofs.lemmas.Nat.{pow-add}
use Rattle.ct_subtrees.specs.declared.covering.Subtree.{Subtree}
use Rattle.ct_subtrees.specs.Cover.{IsCoverByTwo}
use Rattle.ct_subtrees.specs.Made.{is_perfect}
use Rattle.ct_subtrees.specs.PartLaws.{PathIsThroughSubtree, ProofIsThatOfEnd, CoverIsUnique}
use Rattle.ct_subtrees.proofs.Inside.{higher, path-inside_at, sub-partial_at}
use Rattle.ct_subtrees.proofs.Made.{perfect_power, power_perfect}

pub path_is_through_subtree : PathIsThroughSubtree
path_is_through_subtree H i s e D v a b c full =
    path-inside_at H (length D) i s e D refl v a b c
    (elim full [ inl p ↦ inl (perfect_power (e - s) (omega (arith, v.0)) p) | inr f ↦ inr f ])

pub proof_is_that_of_end : ProofIsThatOfEnd
proof_is_that_of_end H s e D v l f =
    sub-partial_at H (length D) s e D true true refl v l
    (λ p. let t : is_perfect (e - s) ≡ true = power_perfect (e - s) p in cc)

-- ---- the cover
multiple_below : (m q i j : ℕ) → m ≡ q * 2 ^ j → i ≤ j → m ≡ q * 2 ^ (j - i) * 2 ^ i
multiple_below m q i j e l =
    let f : j ≡ (j - i) + i = omega arith in
    let g : 2 ^ j ≡ 2 ^ (j - i) * 2 ^ i = ap (λ (u : ℕ). 2 ^ u) f ∙ pow-add 2 (j - i) i in
    e ∙ ap (λ (u : ℕ). q * u) g ∙ omega arith

middle_is : (s e : ℕ) (left right other_left other_right : Subtree) → (a : IsCoverByTwo s e left right) → (b : IsCoverByTwo s e other_left other_right)
    → a.only.0 ≤ b.only.0 → right.start ≡ other_right.start
middle_is s e left right other_left other_right a b l =
    let is = multiple_below other_right.start b.only.1.0 a.only.0 b.only.0 b.only.1.1 l in
    let x = b.only.1.0 * 2 ^ (b.only.0 - a.only.0) in
    sym (is ∙ a.only.2 x (omega (arith, is, b.in_left, b.adjacent)) (omega (arith, is, b.in_right)))

same_power : (a b c : ℕ) → c ≤ 2 ^ a → 2 ^ a < 2 * c → c ≤ 2 ^ b → 2 ^ b < 2 * c → 2 ^ a ≡ 2 ^ b
same_power a b c h i j k =
    ⊎_elim
    (λ (l : 2 ^ a < 2 ^ b). absurd (omega (arith, h, k, higher a b l)))
    (λ (l : 2 ^ b ≤ 2 ^ a).
    ⊎_elim
    (λ (m : 2 ^ b < 2 ^ a). absurd (omega (arith, j, i, higher b a m)))
    (λ (m : 2 ^ a ≤ 2 ^ b). omega (arith, l, m))
    (cases_lt (2 ^ b) (2 ^ a)))
    (cases_lt (2 ^ a) (2 ^ b))

same_subtree : (t u : Subtree) → t.start ≡ u.start → t.end ≡ u.end → t ≡ u
same_subtree t u f g = ap (λ (x : ℕ). record { start = x; end = t.end }) f ∙ ap (λ (x : ℕ). record { start = u.start; end = x }) g

pub cover_is_unique : CoverIsUnique
cover_is_unique s e left right other_left other_right a b =
    let middle : right.start ≡ other_right.start =
    ⊎_elim
    (λ (l : a.only.0 < b.only.0). middle_is s e left right other_left other_right a b (omega arith))
    (λ (l : b.only.0 ≤ a.only.0). sym (middle_is s e other_left other_right left right b a l))
    (cases_lt a.only.0 b.only.0) in
    let ends : left.end ≡ other_left.end = a.adjacent ∙ middle ∙ sym b.adjacent in
    let width : 2 ^ a.full.0 ≡ 2 ^ b.full.0 =
    same_power a.full.0 b.full.0 (left.end - s) (omega (arith, a.full.1, a.begins, a.in_left)) (omega (arith, a.full.1, a.least))
    (omega (arith, b.full.1, b.begins, b.in_left, ends)) (omega (arith, b.full.1, b.least, ends)) in
    let starts : left.start ≡ other_left.start = omega (arith, a.full.1, b.full.1, width, ends, a.begins, a.in_left, b.begins, b.in_left) in (
      same_subtree left other_left starts ends,
      same_subtree right other_right middle (a.ends ∙ sym b.ends),
    )
