use Rattle.std.proofs.Common.{◌≡◌, ◌++◌, length, take, map}
use Rattle.ct_core.specs.Leaf.{leaves_of}
use Rattle.ct_core.specs.LeafHashes.{AreNoted}
use Rattle.ct_core.specs.Tree.{sha256_leaf}
use Rattle.ct_core.proofs.leaf_table.take_all_in.Given as goal

abbrev pub invariant-loop-entry : goal.invariant-loop-entry
invariant-loop-entry l =
    (l.nodes ≡ l.initial.nodes ++ map sha256_leaf (leaves_of (take l.entry-index l.entries)))
    × AreNoted l.slots.items (length l.initial.nodes) (map sha256_leaf (leaves_of (take l.entry-index l.entries)))
