use Rattle.std.proofs.Common.{take, All}
use Rattle.ct_step.proofs.Roots.{has_32}
use Rattle.ct_step.proofs.believed.are_hashes.Given as goal

abbrev pub invariant-loop-hash : goal.invariant-loop-hash
invariant-loop-hash l = All has_32 (take l.hash-index l.hashes)
