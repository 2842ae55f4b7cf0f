-- The meaning of the results for proofs of subtrees.
use Rattle.std.specs.Prelude.{◌≡◌, ℕ, ◌-◌, ◌<◌, ◌≤◌, List, length, Some, true}
use Rattle.ct_tree.specs.Lengths.{path_length}
use Rattle.ct_verify.specs.Rebuild.{rebuild}
use Rattle.ct_subtrees.specs.Subtrees.{IsSubtree, subtree_length}
use Rattle.ct_subtrees.specs.Roots.{subtree_roots}
use Rattle.ct_subtrees.specs.declared.fault.SubtreeFault.{SubtreeFault}
use Rattle.ct_subtrees.specs.declared.fault.SubtreeFault.TheVariants.{NotASubtree, BeyondTree, IndexOutOfRange, PathTooLong, PathTooShort}
use Rattle.ct_subtrees.specs.declared.fault.SubtreeFault.TheVariants.{FirstMismatch, RootMismatch}

-- [s, e) is a subtree, and its end is in the tree of n leaves
abbrev pub IsSubtreeOf : ℕ → ℕ → ℕ → Type 0
IsSubtreeOf s e n = IsSubtree s e × (e ≤ n)

-- [s, e) is a subtree of the tree of n leaves, and the consistency proof p yields the hash x of the subtree and the root y (as
-- draft-ietf-plants-merkle-tree-certs, section 4.4)
abbrev pub AcceptsSubtree : (List ℕ → List ℕ) → ℕ → ℕ → ℕ → List ℕ → List ℕ → List (List ℕ) → Type 0
AcceptsSubtree H s e n x y p = IsSubtreeOf s e n × (subtree_roots H s e n true x p ≡ Some (x, y))

-- when each refusal of a subtree's consistency proof occurs: for the range; for the size of the tree; for too many or too few hashes; for
-- another hash of the subtree; for another root
abbrev pub RefusesSubtree : (List ℕ → List ℕ) → ℕ → ℕ → ℕ → List ℕ → List ℕ → List (List ℕ) → SubtreeFault → Type 0
RefusesSubtree H s e n x y p NotASubtree = ¬ IsSubtree s e
RefusesSubtree H s e n x y p BeyondTree = IsSubtree s e × (n < e)
RefusesSubtree H s e n x y p PathTooLong = IsSubtreeOf s e n × (subtree_length s e n true < length p)
RefusesSubtree H s e n x y p PathTooShort = IsSubtreeOf s e n × (length p < subtree_length s e n true)
RefusesSubtree H s e n x y p FirstMismatch =
    IsSubtreeOf s e n × ((first second : List ℕ) × (subtree_roots H s e n true x p ≡ Some (first, second)) × (¬ (first ≡ x)))
RefusesSubtree H s e n x y p RootMismatch =
    IsSubtreeOf s e n × ((second : List ℕ) × (subtree_roots H s e n true x p ≡ Some (x, second)) × (¬ (second ≡ y)))
RefusesSubtree H s e n x y p IndexOutOfRange = ⊥

-- the index i is in the subtree [s, e)
abbrev pub IsInSubtree : ℕ → ℕ → ℕ → Type 0
IsInSubtree i s e = IsSubtree s e × (s ≤ i) × (i < e)

-- i is in the subtree [s, e), and the path p leads from the leaf hash h at index i to the hash x of the subtree: `rebuild` of index i - s
-- of e - s leaves yields x (RFC 9162, section 2.1.3.2, over the leaves of the subtree)
abbrev pub EvaluatesTo : (List ℕ → List ℕ) → ℕ → ℕ → ℕ → List ℕ → List (List ℕ) → List ℕ → Type 0
EvaluatesTo H i s e h p x = IsInSubtree i s e × (rebuild H (i - s) (e - s) h p ≡ Some x)

-- when each refusal of a path in a subtree occurs: for the range; for the index; for too many or too few hashes
abbrev pub RefusesEvaluation : ℕ → ℕ → ℕ → List (List ℕ) → SubtreeFault → Type 0
RefusesEvaluation i s e p NotASubtree = ¬ IsSubtree s e
RefusesEvaluation i s e p IndexOutOfRange = IsSubtree s e × (¬ ((s ≤ i) × (i < e)))
RefusesEvaluation i s e p PathTooLong = IsInSubtree i s e × (path_length (i - s) (e - s) < length p)
RefusesEvaluation i s e p PathTooShort = IsInSubtree i s e × (length p < path_length (i - s) (e - s))
RefusesEvaluation i s e p BeyondTree = ⊥
RefusesEvaluation i s e p FirstMismatch = ⊥
RefusesEvaluation i s e p RootMismatch = ⊥
