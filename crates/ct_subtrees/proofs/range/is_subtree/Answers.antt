use Rattle.std.proofs.Common.{arith, refl, false}
use Rattle.std.proofs.lemmas.Bool.{both_ways}
use Rattle.ct_subtrees.proofs.Blocks.{block_one, block_even, block_half, block_twice, subtree_block, block_subtree}
use Rattle.ct_subtrees.proofs.range.is_subtree.Goals as goal

pub returns-then-block-eq1 : goal.returns-then-block-eq1
returns-then-block-eq1 c = (
  λ t. absurd (both_ways false refl t),
  λ w. absurd (omega (
    arith,
    c.if-block-eq1.true,
    block_even c.loop-count.block c.loop-count.count c.loop-count-test.true
        (c.loop-count.invariant.down (subtree_block c.args.start c.args.end w)),
  )),
)

pub loop-count-preserved : goal.loop-count-preserved
loop-count-preserved c = record {
  some = c.loop-count.invariant.some;
  down = λ w. block_half c.loop-count.block c.loop-count.count c.loop-count-test.true (c.loop-count.invariant.down w);
  back = λ w. c.loop-count.invariant.back (block_twice c.loop-count.block c.loop-count.count (omega arith) w);
}

pub returns : goal.returns
returns c = (
  λ t. block_subtree c.args.start c.args.end c.loop-count.invariant.some
      (c.loop-count.invariant.back (block_one c.loop-count.block c.loop-count.count c.loop-count-test.false)),
  λ w. refl,
)
