-- The tiles (C2SP tlog-tiles) from which the hash and the proofs of a subtree are computed.
use Rattle.std.specs.Prelude.{ℕ, List, if◌then◌else◌}
use Rattle.ct_tiles.specs.Needed.{path_tiles, proof_tiles}
use Rattle.ct_tiles.specs.declared.needed.NeededTile.{NeededTile}
use Rattle.ct_subtrees.specs.Made.{is_proof_of_end}

-- the tiles from which the inclusion proof of the leaf at index i in the subtree [s, e) is computed, in order: those of PATH(i, D[0:e]), of
-- which it is the beginning. The hash of the subtree is computed from those of its first leaf
abbrev pub subtree_path_tiles : ℕ → ℕ → List NeededTile
subtree_path_tiles i e = path_tiles i e

-- the tiles from which SUBTREE_PROOF(s, e, D[n]) is computed, in order: those of PROOF(e, D[n]) if it is that proof, and otherwise those of
-- PATH(s, D[n]), of which it is the end
abbrev pub subtree_proof_tiles : ℕ → ℕ → ℕ → List NeededTile
subtree_proof_tiles s e n = if is_proof_of_end s e n then proof_tiles e n else path_tiles s n
