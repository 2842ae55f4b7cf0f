-- The bytes of a leaf in parts.
use Rattle.std.specs.Prelude.{ℕ, List}
use Rattle.std.specs.List.{flat_map}

-- the parts one after the other
abbrev pub joined : List (List ℕ) → List ℕ
joined parts = flat_map (λ p. p) parts
