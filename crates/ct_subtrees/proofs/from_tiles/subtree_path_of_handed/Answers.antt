use Rattle.std.proofs.Common.{◌-◌, ◌∙◌, ap, take}
use Rattle.ct_tree.specs.Lengths.{path_length}
use Rattle.ct_subtrees.proofs.Made.{path-inside}
use Rattle.ct_subtrees.proofs.from_tiles.subtree_path_of_handed.Goals as goal

pub returns-in-Ok-clause-path : goal.returns-in-Ok-clause-path
returns-in-Ok-clause-path g c = λ D t f.
    let a = c.args in
    c.inside.ensures
    ∙ ap (take (path_length (a.index - a.start) (a.end - a.start))) (c.in-Ok.ensures.path D t f)
    ∙ path-inside g.H.NodeHash.digest a.index a.start a.end D c.requires.subtree c.requires.from c.requires.below f
