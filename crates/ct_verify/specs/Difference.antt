-- The strings that an audit path and a list of leaves hash, if they differ.
use Rattle.std.specs.Prelude.{ℕ, List, ◌∷◌}
use Rattle.ct_verify.specs.Strings.{children_string}
use Rattle.ct_verify.specs.declared.inclusion_evidence.Difference.{Difference}
use Rattle.ct_verify.specs.declared.inclusion_evidence.Difference.TheVariants.{AtLeaf, AtNode}

-- the path's string, then the list's; the leaf and the list's leaf are given separately from the difference
abbrev pub strings : List ℕ → List ℕ → Difference → List ℕ × List ℕ
strings leaf other AtLeaf = (0 ∷ leaf, 0 ∷ other)
strings leaf other (AtNode proved listed) = (children_string proved, children_string listed)
