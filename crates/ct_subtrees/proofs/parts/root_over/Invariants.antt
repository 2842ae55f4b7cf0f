use Rattle.std.proofs.Common.{◌≡◌, take, fold}
use Rattle.ct_tree.specs.Tree.{hash_node}
use Rattle.ct_subtrees.proofs.parts.root_over.Given as goal

abbrev pub invariant-loop-right : goal.invariant-loop-right
invariant-loop-right g l = l.root ≡ fold (hash_node g.H.NodeHash.digest) l.leaf (take l.right-index l.path)
