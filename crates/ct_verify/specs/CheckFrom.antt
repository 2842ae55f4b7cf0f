-- The refusals of the walk along the rest of a consistency proof.
use Rattle.std.specs.Prelude.{◌≡◌, ℕ, ◌+◌, ◌<◌, List, length, Some}
use Rattle.ct_tree.specs.Lengths.{path_length}
use Rattle.ct_verify.specs.Climb.{pair_up}
use Rattle.ct_verify.specs.declared.fault.ProofFault.{ProofFault}
use Rattle.ct_verify.specs.declared.fault.ProofFault.TheVariants.{IndexOutOfRange, PathTooLong, PathTooShort, RootMismatch, EmptyPath, FirstMismatch}
use Rattle.ct_verify.specs.declared.fault.ProofFault.TheVariants.{SizesOutOfRange}

-- when the walk from the value v refuses: v is node m of a level that ends with node l, p is the elements that follow v, and x and y are
-- the two roots
abbrev pub WalkRefuses : (List ℕ → List ℕ) → ℕ → ℕ → List ℕ → List ℕ → List ℕ → List (List ℕ) → ProofFault → Type 0
WalkRefuses H m l v x y p PathTooLong = path_length m (l + 1) < length p
WalkRefuses H m l v x y p PathTooShort = length p < path_length m (l + 1)
WalkRefuses H m l v x y p FirstMismatch = (first second : List ℕ) × (pair_up H m (l + 1) (v, v) p ≡ Some (first, second)) × (¬ (first ≡ x))
WalkRefuses H m l v x y p RootMismatch = (second : List ℕ) × (pair_up H m (l + 1) (v, v) p ≡ Some (x, second)) × (¬ (second ≡ y))
WalkRefuses H m l v x y p SizesOutOfRange = ⊥
WalkRefuses H m l v x y p EmptyPath = ⊥
WalkRefuses H m l v x y p IndexOutOfRange = ⊥
