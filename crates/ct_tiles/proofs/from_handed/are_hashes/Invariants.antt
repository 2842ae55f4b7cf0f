use Rattle.std.proofs.Common.{take}
use Rattle.ct_verify.specs.Laws.{AreHashes}
use Rattle.ct_tiles.proofs.from_handed.are_hashes.Given as goal

abbrev pub invariant-loop-hash : goal.invariant-loop-hash
invariant-loop-hash l = AreHashes (take l.hash-index l.hashes)
