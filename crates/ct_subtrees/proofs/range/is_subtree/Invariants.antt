use Rattle.std.proofs.Common.{◌-◌, ◌<◌}
use Rattle.ct_subtrees.proofs.Blocks.{IsBlock}
use Rattle.ct_subtrees.proofs.range.is_subtree.Given as goal

abbrev pub invariant-loop-count : goal.invariant-loop-count
invariant-loop-count l = record {
  some : l.fn.start < l.fn.end;
  down : IsBlock l.fn.start (l.fn.end - l.fn.start) → IsBlock l.block l.count;
  back : IsBlock l.block l.count → IsBlock l.fn.start (l.fn.end - l.fn.start);
}

abbrev pub decreases-loop-count : goal.decreases-loop-count
decreases-loop-count l = l.count
