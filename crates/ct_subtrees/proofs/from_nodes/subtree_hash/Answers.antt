use Rattle.std.proofs.Common.{◌∙◌, refl}
use Rattle.ct_tree.proofs.Raised.{subtree-zero}
use Rattle.ct_subtrees.proofs.Made.{hash-over, own_read}
use Rattle.ct_subtrees.proofs.from_nodes.subtree_hash.Goals as goal

pub returns : goal.returns
returns g c = λ D s f.
    let H = g.H.NodeHash.digest in
    let a = c.args in
    let leaf = c.leaf_at-leaf.result in
    c.root_over.ensures
    ∙ hash-over H a.start a.end D leaf c.deref.result.now c.requires.subtree f
    (c.leaf_at-leaf.ensures D (s 0 a.start (own_read a.start a.end c.requires.subtree.0)) ∙ subtree-zero H 0 a.start D refl)
    (c.deref.ensures.value ∙ c.in_ok-path.ensures D s f)
