-- The first leaf of a subtree in the tiles of its path.
use Rattle.std.proofs.Common.{◌≡◌, ℕ, ◌^◌, ◌<◌, ◌≤◌, ◌∙◌, arith, List, [], length, get_or}
use Rattle.std.specs.Prelude.{All}
use Rattle.ct_tiles.specs.Needed.{path_tiles, GivesTile}
use Rattle.ct_tiles.specs.Given.{GivesNodeOf}
use Rattle.ct_tiles.proofs.Enough.{path_given}
use Rattle.ct_tiles.proofs.Subtrees.{one_leaf}
use Rattle.ct_subtrees.proofs.Made.{own_read}

pub leaf_given : (H : List ℕ → List ℕ) (given : ℕ → ℕ → List ℕ) (D : List (List ℕ)) (s e : ℕ) → s < e → e < 2 ^ 64 → e ≤ length D
    → All (GivesTile H given D) (path_tiles s e) → given 0 s ≡ get_or D s []
leaf_given H given D s e l fits i all =
    let node : GivesNodeOf H given D 0 s = path_given H given D s e 0 s fits i all (own_read s e l) in
    node.hash s (omega arith) (omega arith) ∙ one_leaf H s D (omega arith)
