-- The nodes that a walk from the leaves to the root reads.
use Rattle.std.proofs.Common.{◌≡◌, ℕ, ◌+◌, ◌-◌, ◌*◌, ◌/◌, ◌%◌, ◌^◌, ◌<◌, subst, sym, ◌∙◌, ap, arith, List, [], take, get_or, inl, inr, refl}
use Rattle.std.proofs.lemmas.List.{get_or-take}
use Rattle.std.proofs.Math.Nat.{div-div-eq-div-mul, mul-div_cancel}
use Rattle.ct_tree.proofs.Raised.{pow_more, raised-zero, subtree-zero}
use Rattle.std.proofs.lemmas.Nat.{pow_pos}
use Rattle.ct_tree.specs.Levels.{beside, raised, subtree}
use Rattle.ct_tree.specs.Walk.{IsEdgeNode, IsPathNode, IsProofNode}

-- ---- the node above a leaf
pub over_zero : (m : ℕ) → m ≡ m / 2 ^ 0
over_zero m = omega arith

pub over_up : (m level : ℕ) → m / 2 ^ (level + 1) ≡ m / 2 ^ level / 2
over_up m level =
    let e : 2 * 2 ^ level ≡ 2 ^ level * 2 = omega arith in
    ap (λ (p : ℕ). m / p) (pow_more level ∙ e) ∙ sym (div-div-eq-div-mul m (2 ^ level) 2)

pub up_at : (node m level : ℕ) → node ≡ m / 2 ^ level → node / 2 ≡ m / 2 ^ (level + 1)
up_at node m level e = ap (λ (u : ℕ). u / 2) e ∙ sym (over_up m level)

-- m is a multiple: from the level above on, the nodes above leaf m and above the leaf before it are the same
pub known_above : (m node level : ℕ) → m ≡ (node + 1) * 2 ^ level → node % 2 ≡ 0 → node ≡ (m - 1) / 2 ^ level
    → m / 2 ^ (level + 1) ≡ (m - 1) / 2 ^ (level + 1)
known_above m node level e even o =
    let a : m / 2 ^ level ≡ node + 1 = ap (λ (u : ℕ). u / 2 ^ level) e ∙ mul-div_cancel (node + 1) (pow_pos level) in
    let b : (node + 1) / 2 ≡ node / 2 = omega arith in
    over_up m level ∙ ap (λ (u : ℕ). u / 2) a ∙ b ∙ up_at node (m - 1) level o

pub known_up : (m level : ℕ) → m / 2 ^ (level + 1) ≡ (m - 1) / 2 ^ (level + 1) → m / 2 ^ (level + 1 + 1) ≡ (m - 1) / 2 ^ (level + 1 + 1)
known_up m level e = over_up m (level + 1) ∙ ap (λ (u : ℕ). u / 2) e ∙ sym (over_up (m - 1) (level + 1))

-- ---- the nodes that are read
pub last_read : (n : ℕ) → 0 < n → IsEdgeNode n 0 (n - 1)
last_read n p = inl (refl, omega arith)

pub left_read : (n level last : ℕ) → last ≡ (n - 1) / 2 ^ level → last % 2 ≡ 1 → IsEdgeNode n level (last - 1)
left_read n level last e o =
    let a : last - 1 + 1 ≡ last = omega arith in
    inr (ap (λ (u : ℕ). u % 2) (sym e) ∙ o, a ∙ e)

pair_is : (node : ℕ) → beside node / 2 ≡ node / 2
pair_is node = omega arith

pub beside_read : (m n level node last : ℕ) → node ≡ m / 2 ^ level → last ≡ (n - 1) / 2 ^ level → beside node < last → IsPathNode m n level (beside node)
beside_read m n level node last o e h =
    inr (subst (λ (u : ℕ). beside node < u) e h, pair_is node ∙ up_at node m level o)

pub beside_read_known : (m n level node last : ℕ) → m / 2 ^ (level + 1) ≡ (m - 1) / 2 ^ (level + 1) → node ≡ (m - 1) / 2 ^ level
    → last ≡ (n - 1) / 2 ^ level → beside node < last → IsProofNode m n level (beside node)
beside_read_known m n level node last k o e h =
    inr (k, subst (λ (u : ℕ). beside node < u) e h, pair_is node ∙ up_at node (m - 1) level o)

pub begin_read : (m n level node last : ℕ) → m / 2 ^ (level + 1) ≡ (m - 1) / 2 ^ (level + 1) → node ≡ (m - 1) / 2 ^ level
    → last ≡ (n - 1) / 2 ^ level → node < last → IsProofNode m n level node
begin_read m n level node last k o e h =
    inr (k, subst (λ (u : ℕ). node < u) e h, up_at node (m - 1) level o)

-- ---- the last of n leaves
pub last_leaf : (H : List ℕ → List ℕ) (n : ℕ) (D : List (List ℕ)) (edge : List ℕ) → 0 < n → edge ≡ subtree H 0 (n - 1) D
    → get_or (raised H 0 (take n D)) (n - 1) [] ≡ edge
last_leaf H n D edge p e =
    ap (λ (q : List (List ℕ)). get_or q (n - 1) []) (raised-zero H (take n D))
    ∙ get_or-take n D (n - 1) [] (omega arith)
    ∙ sym (e ∙ subtree-zero H 0 (n - 1) D refl)
