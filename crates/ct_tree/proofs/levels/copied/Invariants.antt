use Rattle.std.proofs.Common.{◌≡◌, take}
use Rattle.ct_tree.proofs.levels.copied.Given as goal

abbrev pub invariant-loop-list : goal.invariant-loop-list
invariant-loop-list l = l.lists.items ≡ take l.list-index l.above
