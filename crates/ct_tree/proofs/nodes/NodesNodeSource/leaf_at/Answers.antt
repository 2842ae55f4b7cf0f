use Rattle.std.proofs.Common.{ℕ, List, [], ◌<◌, length, refl, subst, sym, ◌∙◌, ap}
use Rattle.std.proofs.lemmas.List.{get_or_read}
use Rattle.ct_tree.proofs.Raised.{subtree-zero}
use Rattle.ct_tree.specs.Levels.{subtree}
use Rattle.ct_tree.proofs.nodes.NodesNodeSource.leaf_at.Goals as goal

pub returns : goal.returns
returns g c = λ D e.
    let H = g.H.NodeHash.digest in
    let i = c.args.index in
    let leaves = c.self.inside.leaves in
    let below : i < length leaves = subst (λ (q : List (List ℕ)). i < length q) (sym c.self.view_is) c.requires in
    get_or_read leaves i c.at.result.now below c.at.ensures []
    ∙ sym (subtree-zero H 0 i leaves refl)
    ∙ ap (subtree H 0 i) (c.self.view_is ∙ e)
