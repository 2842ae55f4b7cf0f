use Rattle.std.proofs.Common.{take}
use Rattle.sha2.specs.Sha256.{sha256}
use Rattle.ct_tree.specs.Stack.{Stands}
use Rattle.libwagtenib.proofs.proofs.root_of.Given as goal

-- the hashes so far are pushed
abbrev pub invariant-loop-leaf_hash : goal.invariant-loop-leaf_hash
invariant-loop-leaf_hash l = Stands sha256 l.stack (take l.leaf_hash-index l.leaf_hashes)
