use Rattle.std.specs.Borrow.{Bor}
use Rattle.std.proofs.Common.{ℕ, List, arith, ◌∙◌}
use Rattle.ct_guard.proofs.StepBodies.{root_of_one, root_of_both}
use Rattle.ct_guard.proofs.step_receipts.+root_of_leaves.Goals as goal

abbrev bytes : Bor (List ℕ) → List ℕ
bytes leaf = leaf.now

pub returns-then-leaves-eq1 : goal.returns-then-leaves-eq1
returns-then-leaves-eq1 g t c =
    let H = g.H.NodeHash.digest in
    c.leaf_hash.ensures ∙ root_of_one H bytes c.args.leaves.now _ c.if-leaves-eq1.true

pub returns : goal.returns
returns g t c =
    root_of_both g.H.NodeHash.digest bytes c.args.leaves.now c.split_at.result.0.now c.split_at.result.1.now
    c.largest_power_below-k.result
    c.root_of_leaves-left.result c.root_of_leaves-right.result c.node_hash.result
    (omega (arith, c.requires, c.if-leaves-eq1.false))
    c.largest_power_below-k.ensures.split c.split_at.ensures.front c.split_at.ensures.back
    c.root_of_leaves-left.ensures c.root_of_leaves-right.ensures
    c.node_hash.ensures
