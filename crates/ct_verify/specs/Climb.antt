-- The values that the walk from a leaf to the root carries, as the contracts of the helper functions cite it.
use Rattle.std.specs.Prelude.{ℕ, ◌-◌, nat_lt, if◌then◌else◌, List, [], ◌∷◌, reverse, Option, Some, None}
use Rattle.std.specs.Option.{option_map}
use Rattle.ct_tree.specs.Tree.{split, hash_node}

-- a value carried from the leaf at index m of n leaves to the root, by the elements from the root to
-- the leaf. `left x s` joins x with the element s at its right, `right x s` with s at its left
unfoldable pub along : {X : Type 0} (left right : X → List ℕ → X) → ℕ → ℕ → X → List (List ℕ) → Option X
along left right m n x [] = if nat_lt 1 n then None else Some x
along left right m n x (s ∷ q) =
    if nat_lt 1 n then
    (if nat_lt m (split n) then option_map (λ y. left y s) (along left right m (split n) x q)
    else option_map (λ y. right y s) (along left right (m - split n) (n - split n) x q))
    else None

-- the roots of the first m + 1 leaves and of all n: an element at the right belongs only to the second
abbrev pub pair_left : (List ℕ → List ℕ) → List ℕ × List ℕ → List ℕ → List ℕ × List ℕ
pair_left H z s = (z.0, hash_node H z.1 s)

-- an element at the left belongs to both
abbrev pub pair_right : (List ℕ → List ℕ) → List ℕ × List ℕ → List ℕ → List ℕ × List ℕ
pair_right H z s = (hash_node H s z.0, hash_node H s z.1)

-- the two roots that the path p yields for the two values z at index m of n
unfoldable pub pair_up : (List ℕ → List ℕ) → ℕ → ℕ → List ℕ × List ℕ → List (List ℕ) → Option (List ℕ × List ℕ)
pair_up H m n z p = along (pair_left H) (pair_right H) m n z (reverse p)
