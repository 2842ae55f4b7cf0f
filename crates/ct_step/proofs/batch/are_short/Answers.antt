use Rattle.std.proofs.Common.{arith}
use Rattle.ct_step.proofs.Widths.{hashes_in}
use Rattle.ct_step.specs.Entries.{AreShort}
use Rattle.ct_step.proofs.Loops.{mapped-at, mapped-more, mapped-all}
use Rattle.ct_step.proofs.batch.are_short.Goals as goal

pub returns-then-len-ge2048 : goal.returns-then-len-ge2048
returns-then-len-ge2048 c = λ all.
    absurd (omega (
      arith,
      c.chain-item.result.ok.0,
      c.len.ensures,
      c.if-len-ge2048.true,
      mapped-at hashes_in AreShort c.args.chains.now c.loop-chain.chain-index c.chain-item.result all c.loop-chain-test.true c.chain-item.is,
    ))

pub loop-chain-preserved : goal.loop-chain-preserved
loop-chain-preserved c =
    mapped-more hashes_in AreShort c.args.chains.now c.loop-chain.chain-index c.chain-item.result c.loop-chain-test.true c.chain-item.is c.loop-chain.invariant
    (omega (arith, c.chain-item.result.ok.0, c.len.ensures, c.if-len-ge2048.false))

pub returns : goal.returns
returns c = mapped-all hashes_in AreShort c.args.chains.now c.loop-chain.chain-index c.loop-chain-test.false c.loop-chain.invariant
