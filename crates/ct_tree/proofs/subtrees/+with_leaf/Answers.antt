use Rattle.std.proofs.Common.{length, arith, sym}
use Rattle.std.proofs.lemmas.List.{take_all}
use Rattle.ct_tree.proofs.Peaks.{odd_parts, carry_up, peaks-push_even}
use Rattle.ct_tree.specs.Levels.{level}
use Rattle.ct_tree.proofs.subtrees.+with_leaf.Goals as goal

pub returns-then-size-eq0-clause-subtrees : goal.returns-then-size-eq0-clause-subtrees
returns-then-size-eq0-clause-subtrees g t c D e f =
    rw (take_all (length c.args.subtrees.now) c.args.subtrees.now (omega arith), f)
    (sym (peaks-push_even g.H.NodeHash.digest D c.args.leaf_hash.now (omega (arith, c.if-size-eq0.true))))

pub returns-then-count-eq0-clause-subtrees : goal.returns-then-count-eq0-clause-subtrees
returns-then-count-eq0-clause-subtrees g t c D e f =
    let p = odd_parts g.H.NodeHash.digest c.args.size c.args.subtrees.now D e f c.if-size-eq0.false in
    absurd (omega (arith, p.some, c.if-count-eq0.true))

pub returns-else-count-eq0-clause-subtrees : goal.returns-else-count-eq0-clause-subtrees
returns-else-count-eq0-clause-subtrees g t c D e f =
    let H = g.H.NodeHash.digest in
    let p = odd_parts H c.args.size c.args.subtrees.now D e f c.if-size-eq0.false in
    carry_up H c.args.size c.args.subtrees.now D c.args.leaf_hash.now c.node_hash-both.result c.with_leaf.result.1 c.with_leaf.result.0 p
    c.node_hash-both.ensures c.with_leaf.ensures.stays (c.with_leaf.ensures.subtrees (level H p.front) p.half p.rest)
