use Rattle.std.proofs.Common.{◌-◌, arith}
use Rattle.ct_workers.proofs.OperatorLemmas.{not_begun, goes_further, sequence_refused, sequence_done}
use Rattle.ct_workers.proofs.operator_work.sequence.Goals as goal

pub loop-left-init : goal.loop-left-init
loop-left-init g c = not_begun c.args.front c.args.count c.args.now c.args.sequencer.now

pub returns-in-Err : goal.returns-in-Err
returns-in-Err g c =
    let (some, few, less) = c.batch_of-most.ensures in
    sequence_refused c.args.front c.batch_of-most.result c.args.count c.args.now c.loop-left.left c.args.sequencer.now c.loop-left.sequencer
    c.settle_some.new.sequencer
    c.in-Err.refusal c.loop-left.invariant less c.in-Err.ensures

pub loop-left-preserved : goal.loop-left-preserved
loop-left-preserved g c =
    let (some, few, less) = c.batch_of-most.ensures in
    let settles = c.in-Ok.ensures in
    let (count, one, most, time) = settles.answer in
    let same = c.from-left.ensures in
    goes_further c.args.front c.batch_of-most.result c.args.count c.args.now c.loop-left.left (c.loop-left.left - c.from-left.result) c.in-Ok.settled
    c.args.sequencer.now c.loop-left.sequencer c.settle_some.new.sequencer c.loop-left.invariant settles less (omega arith)

pub returns : goal.returns
returns g c =
    sequence_done c.args.front c.args.count c.args.now c.loop-left.left c.args.sequencer.now c.loop-left.sequencer c.loop-left.invariant
    (omega (arith, c.loop-left-test.false))
