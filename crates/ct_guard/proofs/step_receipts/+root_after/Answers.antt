use Rattle.std.specs.Borrow.{Bor}
use Rattle.std.proofs.Common.{ℕ, List, length, arith, sym, ◌∙◌, map}
use Rattle.std.proofs.lemmas.Bool.{eqb-true}
use Rattle.std.proofs.lemmas.List.{nil_from_length}
use Rattle.ct_guard.proofs.StepBodies.{nothing_before, something_before, low_none, low_some, no_subtree}
use Rattle.ct_guard.proofs.StepBodies.{high_none, high_some}
use Rattle.ct_guard.proofs.step_receipts.+root_after.Goals as goal

abbrev bytes : Bor (List ℕ) → List ℕ
bytes leaf = leaf.now

pub returns-then-is_empty : goal.returns-then-is_empty
returns-then-is_empty g t c =
    nothing_before g.H.NodeHash.digest c.args.before c.args.subtrees.now (map bytes c.args.leaves.now)
    c.root_of_leaves.result c.if-before-eq0.true
    (eqb-true (length c.args.subtrees.now) 0 (sym c.is_empty.ensures ∙ c.if-is_empty.true)) c.root_of_leaves.ensures

pub returns-else-is_empty : goal.returns-else-is_empty
returns-else-is_empty g t c =
    something_before g.H.NodeHash.digest c.args.before c.args.subtrees.now (map bytes c.args.leaves.now)
    c.if-before-eq0.true
    (sym c.is_empty.ensures ∙ c.if-is_empty.false)

pub returns-in_default : goal.returns-in_default
returns-in_default g t c =
    low_none g.H.NodeHash.digest bytes c.args.before c.largest_power_below-k.result c.args.subtrees.now
    c.args.leaves.now c.requires.some
    (omega (arith, c.if-before-eq0.false)) c.largest_power_below-k.ensures.split c.split_at.result.0.now
    c.split_at.result.1.now c.root_after.result
    c.if-before-k.true c.split_at.ensures.front c.split_at.ensures.back c.root_after.ensures c.in_default.is

pub returns-then-before-k : goal.returns-then-before-k
returns-then-before-k g t c =
    low_some g.H.NodeHash.digest bytes c.args.before c.largest_power_below-k.result c.args.subtrees.now
    c.args.leaves.now c.requires.some
    (omega (arith, c.if-before-eq0.false)) c.largest_power_below-k.ensures.split c.split_at.result.0.now
    c.split_at.result.1.now c.root_after.result
    c.in-Some.left c.root_of_leaves-right.result c.node_hash.result c.if-before-k.true c.split_at.ensures.front
    c.split_at.ensures.back c.root_after.ensures
    c.in-Some.is c.root_of_leaves-right.ensures c.node_hash.ensures

pub returns-in_default-split_first : goal.returns-in_default-split_first
returns-in_default-split_first g t c =
    no_subtree g.H.NodeHash.digest bytes c.args.before c.largest_power_below-k.result c.args.subtrees.now
    c.args.leaves.now c.requires.some
    (omega (arith, c.if-before-eq0.false)) c.largest_power_below-k.ensures.split (omega (arith, c.if-before-k.false))
    (nil_from_length c.args.subtrees.now c.in_default-split_first.ensures.cases)

pub returns-in_default-root_after : goal.returns-in_default-root_after
returns-in_default-root_after g t c =
    high_none g.H.NodeHash.digest bytes c.args.before c.largest_power_below-k.result c.args.subtrees.now
    c.args.leaves.now c.requires.some
    (omega (arith, c.if-before-eq0.false)) c.largest_power_below-k.ensures.split c.in-Some-split_first.left.now
    c.in-Some-split_first.rest.now
    c.root_after-2.result (omega (arith, c.if-before-k.false)) c.in-Some-split_first.ensures.cases.0
    c.root_after-2.ensures c.in_default-root_after.is

pub returns : goal.returns
returns g t c =
    high_some g.H.NodeHash.digest bytes c.args.before c.largest_power_below-k.result c.args.subtrees.now
    c.args.leaves.now c.requires.some
    (omega (arith, c.if-before-eq0.false)) c.largest_power_below-k.ensures.split c.in-Some-split_first.left.now
    c.in-Some-split_first.rest.now
    c.root_after-2.result c.in-Some-root_after.right c.node_hash-2.result (omega (arith, c.if-before-k.false))
    c.in-Some-split_first.ensures.cases.0
    c.root_after-2.ensures c.in-Some-root_after.is c.node_hash-2.ensures
