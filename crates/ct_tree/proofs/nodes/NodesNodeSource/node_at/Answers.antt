use Rattle.std.proofs.Common.{List, ℕ, ◌+◌, ◌*◌, ◌^◌, ◌<◌, length, subst, sym, ◌∙◌, ap}
use Rattle.ct_tree.proofs.Stored.{stored_of}
use Rattle.ct_tree.specs.Levels.{subtree}
use Rattle.ct_tree.proofs.nodes.NodesNodeSource.node_at.Goals as goal

pub returns : goal.returns
returns g c = λ D e.
    let H = g.H.NodeHash.digest in
    let j = c.args.level in
    let i = c.args.index in
    let leaves = c.self.inside.leaves in
    let below : (i + 1) * 2 ^ j < length leaves = subst (λ (q : List (List ℕ)). (i + 1) * 2 ^ j < length q) (sym c.self.view_is) c.requires in
    stored_of H c.deref.result.now c.self.inside.above.items leaves j i c.stored.result c.deref.ensures.value c.self.invariant below
    c.stored.ensures.leaf c.stored.ensures.inner
    ∙ ap (subtree H j i) (c.self.view_is ∙ e)
