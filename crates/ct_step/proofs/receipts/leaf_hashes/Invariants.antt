use Rattle.std.proofs.Common.{◌≡◌, map, take}
use Rattle.ct_tree.specs.Tree.{hash_leaf}
use Rattle.ct_step.proofs.receipts.leaf_hashes.Given as goal

abbrev pub invariant-loop-receipt : goal.invariant-loop-receipt
invariant-loop-receipt g l = l.hashes.items ≡ map (λ r. hash_leaf g.H.NodeHash.digest r.signed.items) (take l.receipt-index l.receipts)
