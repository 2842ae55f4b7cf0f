use Rattle.ct_workers.proofs.ClosingLemmas.{closing_counts, closing_keeps, closing_ready, closing_refused, settling_refused}
use Rattle.ct_workers.proofs.FrontLemmas.{if_err_is}
use Rattle.ct_workers.proofs.closing.settle_and_publish.Goals as goal

pub returns-clause-refused : goal.returns-clause-refused
returns-clause-refused g c =
    closing_refused c.publish.result c.args.sequencer.now c.shutdown.new.self c.settle.new.self c.publish.new.self c.settle.ensures.settled.0 c.args.now
    c.shutdown.ensures.same c.settle.ensures.settled.1 (c.settle.ensures.time c.in_ok-settle.ensures.in_time) c.publish.ensures.refused

pub returns-clause-kept : goal.returns-clause-kept
returns-clause-kept g c =
    closing_keeps c.publish.result c.args.sequencer.now c.shutdown.new.self c.settle.new.self c.publish.new.self c.shutdown.ensures.listed.0
    c.settle.ensures.settled.0 c.args.now
    c.shutdown.ensures.same c.shutdown.ensures.listed.1.settled c.settle.ensures.settled.1 c.publish.ensures.head

pub returns-clause-counted : goal.returns-clause-counted
returns-clause-counted g c =
    closing_counts c.shutdown.result c.publish.result c.args.sequencer.now c.shutdown.new.self c.settle.new.self c.publish.new.self
    c.settle.ensures.settled.0 c.args.now
    c.shutdown.ensures.answer c.settle.ensures.settled.1 c.publish.ensures.head

pub returns-clause-ready : goal.returns-clause-ready
returns-clause-ready g c =
    closing_ready c.shutdown.result c.publish.result c.args.sequencer.now c.shutdown.new.self c.settle.new.self c.publish.new.self c.args.ends.now
    c.settle.ensures.settled.0 c.args.now c.shutdown.ensures.same c.shutdown.ensures.answer c.settle.ensures.settled.1 c.in_ok-settle.ensures.all
    c.in_ok-settle.ensures.in_time c.publish.ensures.head c.publish.ensures.in_time

pub returns-in_err-settle-clause-refused : goal.returns-in_err-settle-clause-refused
returns-in_err-settle-clause-refused g c =
    if_err_is _ _ c.in_err-settle.field-0.0 c.from_residual.ensures.1
    (settling_refused c.args.sequencer.now c.shutdown.new.self c.args.ends.now c.args.now c.in_err-settle.field-0.0 c.shutdown.ensures.same
    c.requires.in_order c.in_err-settle.ensures.refused)
