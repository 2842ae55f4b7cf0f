-- How the hash and the proofs of a subtree are made from the proofs of RFC 6962, sections 2.1.1 and 2.1.2, and the nodes that they need.
use Rattle.std.specs.Prelude.{◌≡◌, ℕ, ◌-◌, ◌⊎◌, Bool, true, false, nat_lt, nat_eq, if◌then◌else◌}
use Rattle.ct_tree.specs.Tree.{split}
use Rattle.ct_tree.specs.Walk.{IsPathNode, IsProofNode}

-- a tree of c leaves is perfect: it has one leaf, or its two parts have the same number of leaves
abbrev pub is_perfect : ℕ → Bool
is_perfect c = if nat_eq c 1 then true else nat_eq (split c) (c - split c)

-- SUBTREE_PROOF(s, e, D[n]) is PROOF(e, D[n]): the subtree [s, e) is not perfect, and ends before the tree of n leaves
abbrev pub is_proof_of_end : ℕ → ℕ → ℕ → Bool
is_proof_of_end s e n = if nat_lt e n then (if is_perfect (e - s) then false else true) else false

-- the nodes from which SUBTREE_PROOF(s, e, D[n]) is computed: those of PROOF(e, D[n]) if it is that proof, and otherwise those of
-- PATH(s, D[n]), of which it is the end
abbrev pub IsSubtreeProofNode : ℕ → ℕ → ℕ → ℕ → ℕ → Type 0
IsSubtreeProofNode s e n level index =
    ((is_proof_of_end s e n ≡ true) × IsProofNode e n level index) ⊎ ((is_proof_of_end s e n ≡ false) × IsPathNode s n level index)
