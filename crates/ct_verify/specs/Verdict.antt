-- The meaning of the verifiers' results.
use Rattle.std.specs.Prelude.{◌≡◌, ℕ, ◌<◌, ◌≤◌, List, [], length, Some, true}
use Rattle.ct_tree.specs.Lengths.{path_length, subproof_length}
use Rattle.ct_verify.specs.Rebuild.{rebuild, both_roots}
use Rattle.ct_verify.specs.declared.fault.ProofFault.{ProofFault}
use Rattle.ct_verify.specs.declared.fault.ProofFault.TheVariants.{IndexOutOfRange, PathTooLong, PathTooShort, RootMismatch, EmptyPath, FirstMismatch}
use Rattle.ct_verify.specs.declared.fault.ProofFault.TheVariants.{SizesOutOfRange}

-- m is below n, and the path p leads from the leaf hash h at index m of n leaves to the root (RFC 9162, section 2.1.3.2)
abbrev pub AcceptsInclusion : (List ℕ → List ℕ) → List ℕ → ℕ → ℕ → List (List ℕ) → List ℕ → Type 0
AcceptsInclusion H h m n p root = (m < n) × (rebuild H m n h p ≡ Some root)

-- when each refusal of an audit path occurs: the index is outside the tree; the path is longer or shorter than PATH; it leads to another
-- root (RFC 9162, section 2.1.3.2)
abbrev pub RefusesInclusion : (List ℕ → List ℕ) → List ℕ → ℕ → ℕ → List (List ℕ) → List ℕ → ProofFault → Type 0
RefusesInclusion H h m n p root IndexOutOfRange = n ≤ m
RefusesInclusion H h m n p root PathTooLong = (m < n) × (path_length m n < length p)
RefusesInclusion H h m n p root PathTooShort = (m < n) × (length p < path_length m n)
RefusesInclusion H h m n p root RootMismatch = (m < n) × (length p ≡ path_length m n) × (¬ (rebuild H m n h p ≡ Some root))
RefusesInclusion H h m n p root EmptyPath = ⊥
RefusesInclusion H h m n p root FirstMismatch = ⊥
RefusesInclusion H h m n p root SizesOutOfRange = ⊥

-- 0 < m < n, and the proof p yields the root x of the first m leaves and the root y of all n (RFC 9162, section 2.1.4.2)
abbrev pub AcceptsConsistency : (List ℕ → List ℕ) → ℕ → ℕ → List ℕ → List ℕ → List (List ℕ) → Type 0
AcceptsConsistency H m n x y p = (0 < m) × (m < n) × (both_roots H m n true x p ≡ Some (x, y))

-- when each refusal of a consistency proof occurs: for the sizes; for no hashes; for too many or too few; for another first or second root
-- (RFC 9162, section 2.1.4.2)
abbrev pub RefusesConsistency : (List ℕ → List ℕ) → ℕ → ℕ → List ℕ → List ℕ → List (List ℕ) → ProofFault → Type 0
RefusesConsistency H m n x y p SizesOutOfRange = ¬ ((0 < m) × (m < n))
RefusesConsistency H m n x y p EmptyPath = (0 < m) × (m < n) × (p ≡ [])
RefusesConsistency H m n x y p PathTooLong = (0 < m) × (m < n) × (subproof_length m n true < length p)
RefusesConsistency H m n x y p PathTooShort = (0 < m) × (m < n) × (0 < length p) × (length p < subproof_length m n true)
RefusesConsistency H m n x y p FirstMismatch =
    (0 < m) × (m < n) × ((first second : List ℕ) × (both_roots H m n true x p ≡ Some (first, second)) × (¬ (first ≡ x)))
RefusesConsistency H m n x y p RootMismatch =
    (0 < m) × (m < n) × ((second : List ℕ) × (both_roots H m n true x p ≡ Some (x, second)) × (¬ (second ≡ y)))
RefusesConsistency H m n x y p IndexOutOfRange = ⊥
