use Rattle.std.proofs.Common.{true, false, [], ◌∷◌, arith, sym, ◌∙◌, ap}
use Rattle.ct_tree.proofs.Subproof.{subproof-whole}
use Rattle.ct_tree.proofs.ReferenceStep.{subproof_from_left, subproof_from_right}
use Rattle.ct_tree.proofs.reference.+subproof.Goals as goal

pub returns-then-is_known : goal.returns-then-is_known
returns-then-is_known g t c =
    rw c.if-is_known.true (c.new.ensures.items
    ∙ sym (subproof-whole g.H.NodeHash.digest c.args.m c.args.leaves.now true c.requires.positive (omega (arith, c.if-m-leaves.true))))

pub returns-then-m-leaves : goal.returns-then-m-leaves
returns-then-m-leaves g t c =
    rw c.if-is_known.false (c.in_ok-vec.ensures.items ∙ ap (λ x. x ∷ []) c.root.ensures
    ∙ sym (subproof-whole g.H.NodeHash.digest c.args.m c.args.leaves.now false c.requires.positive (omega (arith, c.if-m-leaves.true))))

pub returns-in_ok-push : goal.returns-in_ok-push
returns-in_ok-push g t c =
    c.in_ok-push.ensures.items
    ∙ subproof_from_left g.H.NodeHash.digest c.args.m c.largest_power_below-k.result c.args.leaves.now c.split_at.result.0.now c.split_at.result.1.now
    c.in_ok-hashes.hashes.items c.root-then-m-k.result c.largest_power_below-k.ensures.split c.split_at.ensures.front c.split_at.ensures.back
    c.args.is_known c.requires.positive (omega (arith, c.requires.within, c.if-m-leaves.false)) (omega (arith, c.if-m-k.true))
    c.in_ok-hashes.ensures c.root-then-m-k.ensures

pub returns-in_ok-push-2 : goal.returns-in_ok-push-2
returns-in_ok-push-2 g t c =
    c.in_ok-push-2.ensures.items
    ∙ subproof_from_right g.H.NodeHash.digest c.args.m c.largest_power_below-k.result c.args.leaves.now c.split_at.result.0.now c.split_at.result.1.now
    c.in_ok-hashes-2.hashes.items c.root-else-m-k.result c.largest_power_below-k.ensures.split c.split_at.ensures.front c.split_at.ensures.back
    c.args.is_known c.requires.positive (omega (arith, c.requires.within, c.if-m-leaves.false)) (omega (arith, c.if-m-k.false))
    c.in_ok-hashes-2.ensures c.root-else-m-k.ensures
