use Rattle.std.proofs.Common.{◌-◌, ◌∙◌, ap, take}
use Rattle.ct_tree.specs.Lengths.{path_length}
use Rattle.ct_subtrees.proofs.Made.{path-inside}
use Rattle.ct_subtrees.proofs.from_nodes.subtree_path.Goals as goal

pub returns : goal.returns
returns g c = λ D s f.
    let a = c.args in
    c.inside.ensures
    ∙ ap (take (path_length (a.index - a.start) (a.end - a.start))) (c.in_ok-path.ensures.hashes D s f)
    ∙ path-inside g.H.NodeHash.digest a.index a.start a.end D c.requires.subtree c.requires.from c.requires.below f
