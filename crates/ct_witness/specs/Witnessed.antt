-- The trees that a witness passes, and the reasons why it refuses. H is any hash function on byte lists, and p is a consistency proof.
use Rattle.std.specs.Prelude.{◌≡◌, ◌⊎◌, ◌<◌, ◌≤◌, ℕ, List, []}
use Rattle.ct_verify.specs.Verdict.{AcceptsConsistency, RefusesConsistency}
use Rattle.ct_witness.specs.declared.tree.Tree.{Tree}
use Rattle.ct_witness.specs.declared.refusal.WitnessRefusal.{WitnessRefusal}
use Rattle.ct_witness.specs.declared.refusal.WitnessRefusal.TheVariants.{OldAbove, NotLast, Fork, ProofNotEmpty, Inconsistent}

-- the tree extends the last one by the proof p, in one of three ways:
-- - both have the same size and the same root, and there is no proof;
-- - the last has no leaves, this one has some, and there is no proof;
-- - the consistency proof is accepted
abbrev pub TreeGoesOn : (List ℕ → List ℕ) → Tree → Tree → List (List ℕ) → Type 0
TreeGoesOn H last tree p =
    ((tree.size ≡ last.size) × (tree.root ≡ last.root) × (p ≡ [])) ⊎ (((last.size ≡ 0) × (0 < tree.size) × (p ≡ []))
    ⊎ AcceptsConsistency H last.size tree.size last.root tree.root p)

-- why a tree that is not smaller does not extend the last one. Fork: the same size, and a different root. ProofNotEmpty: there is a proof,
-- and both have the same size and root or the last has no leaves. Inconsistent: more leaves, and the consistency proof is refused
abbrev pub StopsGoingOn : (List ℕ → List ℕ) → Tree → Tree → List (List ℕ) → WitnessRefusal → Type 0
StopsGoingOn H last tree p OldAbove = ⊥
StopsGoingOn H last tree p NotLast = ⊥
StopsGoingOn H last tree p Fork = (tree.size ≡ last.size) × (¬ (tree.root ≡ last.root))
StopsGoingOn H last tree p ProofNotEmpty =
    (¬ (p ≡ [])) × (((tree.size ≡ last.size) × (tree.root ≡ last.root)) ⊎ ((last.size ≡ 0) × (0 < tree.size)))
StopsGoingOn H last tree p (Inconsistent fault) =
    (0 < last.size) × (last.size < tree.size) × RefusesConsistency H last.size tree.size last.root tree.root p fault

-- a tree is passed after the last one with the old size and the proof p: the old size is the size of the last one, and this tree extends
-- the last one
abbrev pub PassesTree : (List ℕ → List ℕ) → Tree → ℕ → Tree → List (List ℕ) → Type 0
PassesTree H last old tree p = (old ≡ last.size) × TreeGoesOn H last tree p

-- why a tree is refused after the last one. OldAbove: the old size is above the tree's own size. NotLast: it is not above, and is not the
-- size of the last tree. Fork, ProofNotEmpty, Inconsistent: it is the size of the last tree, and the tree does not extend the last one
abbrev pub StopsTree : (List ℕ → List ℕ) → Tree → ℕ → Tree → List (List ℕ) → WitnessRefusal → Type 0
StopsTree H last old tree p OldAbove = tree.size < old
StopsTree H last old tree p NotLast = (old ≤ tree.size) × (¬ (old ≡ last.size))
StopsTree H last old tree p Fork = (old ≡ last.size) × StopsGoingOn H last tree p Fork
StopsTree H last old tree p ProofNotEmpty = (old ≡ last.size) × StopsGoingOn H last tree p ProofNotEmpty
StopsTree H last old tree p (Inconsistent fault) = (old ≡ last.size) × StopsGoingOn H last tree p (Inconsistent fault)
