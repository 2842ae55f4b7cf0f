-- The results of the search for a collision between two lists, as the contracts of its helper functions cite it.
use Rattle.std.specs.Prelude.{◌≡◌, ℕ, Bool, List, ◌∷◌, length, Option, Some}
use Rattle.std.specs.Option.{option_map}
use Rattle.ct_tree.specs.Tree.{mth_of_leaves, hash_node}
use Rattle.ct_verify.specs.Rebuild.{both_roots}
use Rattle.ct_verify.specs.Strings.{children_string}
use Rattle.ct_verify.specs.declared.consistency_evidence.Clash.{Clash}
use Rattle.ct_verify.specs.declared.consistency_evidence.Clash.TheVariants.{Leaves, Nodes}
use Rattle.ct_verify.specs.ConsistencyEvidence.{IsBeginning}

-- the two strings of a clash
abbrev pub clash_strings : Clash → List ℕ × List ℕ
clash_strings (Leaves a b) = (0 ∷ a.now, 0 ∷ b.now)
clash_strings (Nodes a b) = (children_string a, children_string b)

-- the strings that were found
abbrev pub found_strings : Option Clash → Option (List ℕ × List ℕ)
found_strings o = option_map clash_strings o

-- if the hashes of two nodes are equal, their parts are equal
abbrev pub NodesApart : (List ℕ → List ℕ) → List ℕ → List ℕ → List ℕ → List ℕ → Type 0
NodesApart H a b c d = hash_node H a b ≡ hash_node H c d → (a ≡ c) × (b ≡ d)

-- two lists of equal length: if their roots are equal, the lists are equal
abbrev pub SameRoot : (List ℕ → List ℕ) → List (List ℕ) → List (List ℕ) → Type 0
SameRoot H E D = mth_of_leaves H E ≡ mth_of_leaves H D → E ≡ D

-- if the proof's roots are those of the lists, the old list begins the new one
abbrev pub Begun : (List ℕ → List ℕ) → Bool → List ℕ → List (List ℕ) → List (List ℕ) → List (List ℕ) → Type 0
Begun H b r p E D = both_roots H (length E) (length D) b r p ≡ Some (mth_of_leaves H E, mth_of_leaves H D) → IsBeginning E D
