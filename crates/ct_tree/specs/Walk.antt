-- The nodes that a walk from the leaves to the root reads. At level l the node above the leaf at index i has the index i / 2^l. In the tree
-- of n leaves, `(n - 1) / 2 ^ level` is the index of a level's last node.
use Rattle.std.specs.Prelude.{◌≡◌, ◌⊎◌, ℕ, ◌+◌, ◌-◌, ◌/◌, ◌%◌, ◌^◌, ◌<◌}

-- the nodes from which the root of n leaves is computed: the last leaf, and from each level whose last node is a right one, the node to its
-- left
abbrev pub IsEdgeNode : ℕ → ℕ → ℕ → Type 0
IsEdgeNode n level index =
    ((level ≡ 0) × (index + 1 ≡ n)) ⊎ (((n - 1) / 2 ^ level % 2 ≡ 1) × (index + 1 ≡ (n - 1) / 2 ^ level))

-- the nodes from which PATH(m, D[n]) is computed: the same, and from each level the pair above leaf m, except the level's last node
abbrev pub IsPathNode : ℕ → ℕ → ℕ → ℕ → Type 0
IsPathNode m n level index = IsEdgeNode n level index ⊎ ((index < (n - 1) / 2 ^ level) × (index / 2 ≡ m / 2 ^ (level + 1)))

-- the nodes from which PROOF(m, D[n]) is computed: the same for leaf m - 1, but only pairs that are above leaf m too
abbrev pub IsProofNode : ℕ → ℕ → ℕ → ℕ → Type 0
IsProofNode m n level index =
    IsEdgeNode n level index
    ⊎ ((m / 2 ^ (level + 1) ≡ (m - 1) / 2 ^ (level + 1)) × (index < (n - 1) / 2 ^ level) × (index / 2 ≡ (m - 1) / 2 ^ (level + 1)))

-- each node that is read is given
abbrev pub AreNodesGiven : (ℕ → ℕ → Type 0) → (ℕ → ℕ → Type 0) → Type 0
AreNodesGiven IsRead gives = (level index : ℕ) → IsRead level index → gives level index
