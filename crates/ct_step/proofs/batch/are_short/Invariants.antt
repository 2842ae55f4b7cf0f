use Rattle.std.proofs.Common.{map, take, All}
use Rattle.ct_step.proofs.Widths.{hashes_in}
use Rattle.ct_step.specs.Entries.{AreShort}
use Rattle.ct_step.proofs.batch.are_short.Given as goal

abbrev pub invariant-loop-chain : goal.invariant-loop-chain
invariant-loop-chain l = All AreShort (map hashes_in (take l.chain-index l.chains))
