use Rattle.std.proofs.Common.{arith}
use Rattle.ct_workers.proofs.OperatorLemmas.{some_refused, some_settled, still_none}
use Rattle.ct_workers.proofs.operator_work.settle_some.Goals as goal

pub returns-in-Err : goal.returns-in-Err
returns-in-Err g c =
    let (xs, takes, more) = c.in-Err.ensures.taken in
    some_refused c.args.front c.args.most c.args.now c.args.sequencer.now c.loop-turn.sequencer c.take.new.self xs c.in-Err.refusal
    c.loop-turn.invariant takes (c.take.ensures.listed xs takes) c.take.ensures.early more c.in-Err.ensures.refused

pub returns-then-settled-gt0 : goal.returns-then-settled-gt0
returns-then-settled-gt0 g c =
    let (xs, takes, more) = c.in-Ok.ensures.taken in
    let (count, few, least) = more in
    some_settled c.args.front c.args.most c.args.now c.args.sequencer.now c.loop-turn.sequencer c.take.new.self xs c.in-Ok.settled
    c.loop-turn.invariant takes (c.take.ensures.listed xs takes) c.take.ensures.early count c.if-settled-gt0.true few c.in-Ok.ensures.in_time

pub loop-turn-preserved : goal.loop-turn-preserved
loop-turn-preserved g c =
    let (xs, takes, more) = c.in-Ok.ensures.taken in
    let (count, few, least) = more in
    still_none c.args.front c.args.now c.args.sequencer.now c.loop-turn.sequencer c.take.new.self xs c.in-Ok.settled
    c.loop-turn.invariant takes (c.take.ensures.listed xs takes) c.take.ensures.early count (omega (arith, c.if-settled-gt0.false))
