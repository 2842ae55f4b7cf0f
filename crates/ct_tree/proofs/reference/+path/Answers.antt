use Rattle.std.proofs.Common.{arith, sym, ◌∙◌}
use Rattle.ct_tree.proofs.Path.{path-small}
use Rattle.ct_tree.proofs.ReferenceStep.{path_from_left, path_from_right}
use Rattle.ct_tree.proofs.reference.+path.Goals as goal

pub returns-then-leaves-eq1 : goal.returns-then-leaves-eq1
returns-then-leaves-eq1 g t c =
    c.new.ensures.items ∙ sym (path-small g.H.NodeHash.digest c.args.m c.args.leaves.now (omega (arith, c.if-leaves-eq1.true)))

pub returns-in_ok-push : goal.returns-in_ok-push
returns-in_ok-push g t c =
    c.in_ok-push.ensures.items
    ∙ path_from_left g.H.NodeHash.digest c.args.m c.largest_power_below-k.result c.args.leaves.now c.split_at.result.0.now c.split_at.result.1.now
    c.in_ok-hashes.hashes.items c.root.result c.largest_power_below-k.ensures.split c.split_at.ensures.front c.split_at.ensures.back
    (omega (arith, c.requires, c.if-leaves-eq1.false)) (omega (arith, c.if-m-k.true)) c.in_ok-hashes.ensures c.root.ensures

pub returns-in_ok-push-2 : goal.returns-in_ok-push-2
returns-in_ok-push-2 g t c =
    c.in_ok-push-2.ensures.items
    ∙ path_from_right g.H.NodeHash.digest c.args.m c.largest_power_below-k.result c.args.leaves.now c.split_at.result.0.now c.split_at.result.1.now
    c.in_ok-hashes-2.hashes.items c.root-else-m-k.result c.largest_power_below-k.ensures.split c.split_at.ensures.front c.split_at.ensures.back
    (omega (arith, c.requires, c.if-leaves-eq1.false)) (omega (arith, c.if-m-k.false)) c.in_ok-hashes-2.ensures c.root-else-m-k.ensures
