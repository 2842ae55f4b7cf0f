-- Theorems about what is made of subtrees: which part of an audit path or of another proof each proof is, and that a range has one cover.
use Rattle.std.specs.Prelude.{◌≡◌, ◌⊎◌, ◌-◌, ◌<◌, ◌≤◌, ◌++◌, ℕ, List, length, true, false}
use Rattle.ct_tree.specs.Tree.{path, proof}
use Rattle.ct_subtrees.specs.declared.covering.Subtree.{Subtree}
use Rattle.ct_subtrees.specs.Cover.{IsCoverByTwo}
use Rattle.ct_subtrees.specs.Made.{is_perfect}
use Rattle.ct_subtrees.specs.Subtrees.{IsSubtree, subtree_path, subtree_proof}

-- If a subtree is full, or ends with the tree, the audit path of each of its leaves is first the path in the subtree, and then the consistency
-- proof of the subtree
abbrev pub PathIsThroughSubtree : Type 0
PathIsThroughSubtree =
    (H : List ℕ → List ℕ) (i s e : ℕ) (D : List (List ℕ)) → IsSubtree s e → s ≤ i → i < e → e ≤ length D
    → (is_perfect (e - s) ≡ true) ⊎ (e ≡ length D)
    → path H i D ≡ subtree_path H i s e D ++ subtree_proof H s e D

-- the consistency proof of any other subtree is that of the leaves before its end
abbrev pub ProofIsThatOfEnd : Type 0
ProofIsThatOfEnd =
    (H : List ℕ → List ℕ) (s e : ℕ) (D : List (List ℕ)) → IsSubtree s e → e < length D → is_perfect (e - s) ≡ false
    → subtree_proof H s e D ≡ proof H e D

-- no other two subtrees cover a range
abbrev pub CoverIsUnique : Type 0
CoverIsUnique =
    (s e : ℕ) (left right other_left other_right : Subtree) → IsCoverByTwo s e left right → IsCoverByTwo s e other_left other_right
    → (left ≡ other_left) × (right ≡ other_right)
