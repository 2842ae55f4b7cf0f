-- The numbers that the calls over subtrees return, and what they write.
use Rattle.std.specs.Prelude.{◌≡◌, ◌⊎◌, ◌+◌, ◌<◌, ◌≤◌, ℕ, List}
use Rattle.ct_subtrees.specs.Cover.{IsCoverByTwo}
use Rattle.ct_subtrees.specs.Subtrees.{IsSubtree}
use Rattle.ct_subtrees.specs.Verdict.{EvaluatesTo, RefusesEvaluation}
use Rattle.ct_subtrees.specs.declared.covering.Subtree.{Subtree}
use Rattle.ct_subtrees.specs.declared.fault.SubtreeFault.{SubtreeFault}
use Rattle.ct_subtrees.specs.declared.fault.SubtreeFault.TheVariants.{NotASubtree, BeyondTree, IndexOutOfRange, PathTooLong, PathTooShort}
use Rattle.ct_subtrees.specs.declared.fault.SubtreeFault.TheVariants.{FirstMismatch, RootMismatch}

-- the number that a fault of a subtree's proof has in C; include/wagtenib.h has the same
abbrev pub subtree_code : SubtreeFault → ℕ
subtree_code NotASubtree = 160
subtree_code BeyondTree = 161
subtree_code IndexOutOfRange = 1
subtree_code PathTooLong = 2
subtree_code PathTooShort = 3
subtree_code FirstMismatch = 6
subtree_code RootMismatch = 4

-- 0, and [s, e) is a subtree; or 160, and it is none
abbrev pub ChecksSubtree : ℕ → ℕ → ℕ → Type 0
ChecksSubtree s e code = ((code ≡ 0) × IsSubtree s e) ⊎ ((code ≡ 160) × (¬ IsSubtree s e))

-- 0 and the proof is accepted, or the number of its fault
abbrev pub JudgesSubtree : ℕ → Type 0 → (SubtreeFault → Type 0) → Type 0
JudgesSubtree code accepts refuses = ((code ≡ 0) × accepts) ⊎ ((f : SubtreeFault) × (code ≡ subtree_code f) × refuses f)

-- 0, and the path of leaf i in the subtree [s, e) leads to the hash that is written; or the number of its fault, and nothing is written
abbrev pub EvaluatesPath : (List ℕ → List ℕ) → ℕ → ℕ → ℕ → List ℕ → List (List ℕ) → ℕ → List ℕ → List ℕ → Type 0
EvaluatesPath H i s e leaf path code before after =
    ((code ≡ 0) × EvaluatesTo H i s e leaf path after)
    ⊎ ((f : SubtreeFault) × (code ≡ subtree_code f) × RefusesEvaluation i s e path f × (after ≡ before))

-- 0, and the subtrees [first, middle) and [middle, e) cover the range [s, e) of more than one leaf, or the range is one leaf and all of them begin with it; or 162, the
-- range is empty, and nothing is written
abbrev pub CoversRange : ℕ → ℕ → ℕ → ℕ → ℕ → ℕ → ℕ → Type 0
CoversRange s e code first_before first middle_before middle =
    ((code ≡ 0) × (((e ≡ s + 1) × (first ≡ s) × (middle ≡ s))
    ⊎ IsCoverByTwo s e (record { start = first; end = middle }) (record { start = middle; end = e })))
    ⊎ ((code ≡ 162) × (e ≤ s) × (first ≡ first_before) × (middle ≡ middle_before))
