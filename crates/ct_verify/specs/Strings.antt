-- The strings that are hashed in a tree.
use Rattle.std.specs.Prelude.{◌≡◌, ℕ, List, ◌∷◌, ◌++◌}
use Rattle.ct_verify.specs.declared.children.Children.{Children}
use Rattle.ct_verify.specs.declared.evidence.Evidence.{Evidence}
use Rattle.ct_verify.specs.declared.evidence.Evidence.TheVariants.{Holds, Collision}

-- the string of an inner node with these two child hashes: 01 || left || right
abbrev pub children_string : Children → List ℕ
children_string c = 1 ∷ c.left ++ c.right

-- this pair of strings is the collision in the evidence
abbrev pub IsCollision : {A : Type 0} → List ℕ × List ℕ → Evidence A → Type 0
IsCollision z Holds = ⊥
IsCollision z (Collision a b) = (a.items ≡ z.0) × (b.items ≡ z.1)
