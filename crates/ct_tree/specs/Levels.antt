-- The levels of a tree, counted from the leaves, which are level 0.
use Rattle.std.specs.Prelude.{ℕ, zero, suc, ◌+◌, ◌-◌, ◌*◌, ◌%◌, nat_lt, if◌then◌else◌, List, [], ◌∷◌, get_or}
use Rattle.ct_tree.specs.Tree.{hash_node}

-- one level up: the hashes of neighbors joined in pairs; a last node without a sibling is kept
unfoldable pub level : (List ℕ → List ℕ) → List (List ℕ) → List (List ℕ)
level H [] = []
level H (x ∷ []) = x ∷ []
level H (x ∷ y ∷ rest) = hash_node H x y ∷ level H rest

-- the level that is j above the leaves
unfoldable pub raised : (List ℕ → List ℕ) → ℕ → List (List ℕ) → List (List ℕ)
raised H zero D = D
raised H (suc j) D = level H (raised H j D)

-- the root of the perfect subtree of 2 ^ j leaves at index i of level j
unfoldable pub subtree : (List ℕ → List ℕ) → ℕ → ℕ → List (List ℕ) → List ℕ
subtree H zero i D = get_or D i []
subtree H (suc j) i D = hash_node H (subtree H j (2 * i) D) (subtree H j (2 * i + 1) D)

-- the index of the sibling of the node at index i: the other node of its pair
abbrev pub beside : ℕ → ℕ
beside i = i + 1 - 2 * (i % 2)

-- the node at index i of level j; the level's last node, at index `last`, is `edge`
abbrev pub node_or_edge : (List ℕ → List ℕ) → ℕ → ℕ → ℕ → List ℕ → List (List ℕ) → List ℕ
node_or_edge H j i last edge D = if nat_lt i last then subtree H j i D else edge
