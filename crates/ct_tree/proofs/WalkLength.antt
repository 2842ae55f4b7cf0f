-- The number of hashes that a walk from a leaf to the root has collected so far.
use Rattle.std.proofs.Common.{◌≡◌, ℕ, ◌+◌, ◌-◌, ◌/◌, ◌%◌, ◌<◌, ◌++◌, ◌∷◌, true, List, [], length, ◌∙◌, ap, arith, length-append, inr}
use Rattle.ct_tree.proofs.Split.{inside}
use Rattle.ct_tree.proofs.Length.{path_length-one, path_length-taken, path_length-passed}
use Rattle.ct_tree.proofs.SubproofLength.{subproof_length-up, subproof_length-first, subproof_length-odd}
use Rattle.ct_tree.specs.Lengths.{path_length, subproof_length}

-- ---- before a step: none
pub count_begun : (m n : ℕ) (q : List (List ℕ)) → 0 < n → q ≡ [] → path_length m n ≡ length q + path_length m (n - 1 + 1)
count_begun m n q z e =
    let none : length q ≡ 0 = ap length e in
    let same : path_length m n ≡ path_length m (n - 1 + 1) = ap (path_length m) (omega (arith, z)) in
    omega (arith, none, same)

-- ---- a step with a sibling: one
pub count_taken : (q r : List (List ℕ)) (s : List ℕ) (total m l : ℕ) → total ≡ length q + path_length m (l + 1) → m + 1 < l + 1 + m % 2 → r ≡ q ++ s ∷ []
    → total ≡ length r + path_length (m / 2) (l / 2 + 1)
count_taken q r s total m l e b f =
    let more : length r ≡ length q + 1 = ap length f ∙ length-append q (s ∷ []) in
    omega (arith, e, more, path_length-taken m l (omega (arith, b)))

-- ---- a step from a last node without a sibling: none
pub count_passed : (q r : List (List ℕ)) (total m l : ℕ) → total ≡ length q + path_length m (l + 1) → m % 2 ≡ 0 → m ≡ l → 0 < l → r ≡ q
    → total ≡ length r + path_length (m / 2) (l / 2 + 1)
count_passed q r total m l e o g z f =
    let same : length r ≡ length q = ap length f in
    omega (arith, e, same, path_length-passed m l o g z)

-- ---- at the root: no more
pub count_ended : (q : List (List ℕ)) (m l : ℕ) → l ≡ 0 → length q + path_length m (l + 1) ≡ length q
count_ended q m l z =
    let none : path_length m (l + 1) ≡ 0 = ap (λ (u : ℕ). path_length m (u + 1)) z ∙ path_length-one m in
    omega (arith, none)

-- ---- a consistency proof, while the first tree's last node is a right one
pub count_halved : (m l : ℕ) → m % 2 ≡ 1 → m < l → subproof_length (m + 1) (l + 1) true ≡ subproof_length (m / 2 + 1) (l / 2 + 1) true
count_halved m l o b =
    let first : (m + 1) / 2 ≡ m / 2 + 1 = omega (arith, o) in
    let second : (l + 1 + 1) / 2 ≡ l / 2 + 1 = omega arith in
    subproof_length-up (l + 1) (m + 1) true (omega (arith, o)) (omega arith) (inside (omega (arith, b)))
    ∙ ap (λ (u : ℕ). subproof_length u ((l + 1 + 1) / 2) true) first ∙ ap (λ (u : ℕ). subproof_length (m / 2 + 1) u true) second

-- ---- if that node is the first one, its root is known
pub count_known : (q : List (List ℕ)) (m l : ℕ) → m ≡ 0 → q ≡ [] → subproof_length (m + 1) (l + 1) true ≡ length q + path_length m (l + 1)
count_known q m l z e =
    let none : length q ≡ 0 = ap length e in
    let same : subproof_length (m + 1) (l + 1) true ≡ path_length 0 (l + 1) = ap (λ (u : ℕ). subproof_length (u + 1) (l + 1) true) z ∙ subproof_length-first (l + 1) (omega arith) in
    omega (arith, none, same, ap (λ (u : ℕ). path_length u (l + 1)) z)

-- ---- otherwise it is the first hash
pub count_node : (q : List (List ℕ)) (s : List ℕ) (m l : ℕ) → m % 2 ≡ 0 → 0 < m → m < l → q ≡ s ∷ [] → subproof_length (m + 1) (l + 1) true ≡ length q + path_length m (l + 1)
count_node q s m l o z b e =
    let one : length q ≡ 1 = ap length e in
    let same : path_length (m + 1 - 1) (l + 1) ≡ path_length m (l + 1) = ap (λ (u : ℕ). path_length u (l + 1)) (omega arith) in
    omega (arith, one, same, subproof_length-odd (l + 1) (m + 1) true (omega (arith, o)) (inr (omega (arith, z))) (inside (omega (arith, b))))
