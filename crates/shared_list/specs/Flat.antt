-- Lists that consist of parts of one size.
use Rattle.std.specs.Prelude.{◌≡◌, ℕ, ◌≤◌, List, [], ◌∷◌, ◌++◌, length, Option, Some, None}

-- the parts, one after another
abbrev pub concatenated : {X : Type 0} → List (List X) → List X
concatenated [] = []
concatenated (c ∷ cs) = c ++ concatenated cs

-- the items of the shared value, or no items if there is no shared value
abbrev pub shared_items : {A X : Type 0} → Option A → (A → List X) → List X
shared_items None items = []
shared_items (Some a) items = items a

-- each part has n values
abbrev pub AllOf : {X : Type 0} → ℕ → List (List X) → Type 0
AllOf n [] = Unit {0}
AllOf n (c ∷ cs) = (length c ≡ n) × AllOf n cs

-- each part has `size` values, the rest has at most `size` values, and there are n values in all
pub record IsInParts {X : Type 0} (size : ℕ) (parts : List (List X)) (rest : List X) (n : ℕ) : Type 0 where
  pub each : AllOf size parts
  pub short : length rest ≤ size
  pub all : length (concatenated parts ++ rest) ≡ n
