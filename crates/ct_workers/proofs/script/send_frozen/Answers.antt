use Rattle.std.proofs.KnownBytes.{Appends-nil}
use Rattle.json_lines.proofs.KeptLines.{of_error}
use Rattle.ct_workers.proofs.OutputLemmas.{frozen_all, frozen_whole, replies_cut, replies_more}
use Rattle.ct_workers.proofs.script.send_frozen.Goals as goal

pub loop-request-init : goal.loop-request-init
loop-request-init g c = Appends-nil (g.W.Write.contents c.args.output.now)

pub loop-request-preserved : goal.loop-request-preserved
loop-request-preserved g c =
    replies_more c.args.log.now c.args.requests.now c.loop-request.request-index c.request-item.result (g.W.Write.contents c.args.output.now)
    (g.W.Write.contents c.loop-request.output) (g.W.Write.contents c.send_reply.new.output) c.loop-request-test.true c.request-item.is c.loop-request.invariant
    c.in_ok-send_reply.ensures.all

pub returns-in_err-send_reply-clause-some : goal.returns-in_err-send_reply-clause-some
returns-in_err-send_reply-clause-some g c =
    of_error c.from_residual.result (λ lines are.
    let (next, short, after) = c.in_err-send_reply.ensures.some in
    replies_cut c.args.log.now c.args.requests.now c.loop-request.request-index c.request-item.result lines next (g.W.Write.contents c.args.output.now)
    (g.W.Write.contents c.loop-request.output) (g.W.Write.contents c.send_reply.new.output) c.loop-request-test.true c.request-item.is are
    c.loop-request.invariant short after)

pub returns-in-Ok-clause-all : goal.returns-in-Ok-clause-all
returns-in-Ok-clause-all g c = λ lines are.
    frozen_all c.args.log.now c.args.requests.now c.loop-request.request-index lines (g.W.Write.contents c.args.output.now)
    (g.W.Write.contents c.loop-request.output) (g.W.Write.contents c.flush.new.self) c.loop-request-test.false are c.loop-request.invariant c.flush.ensures.bytes

pub returns-in-Err-clause-some : goal.returns-in-Err-clause-some
returns-in-Err-clause-some g c = λ lines are.
    frozen_whole c.args.log.now lines (g.W.Write.contents c.args.output.now) (g.W.Write.contents c.flush.new.self)
    (frozen_all c.args.log.now c.args.requests.now c.loop-request.request-index lines (g.W.Write.contents c.args.output.now)
    (g.W.Write.contents c.loop-request.output) (g.W.Write.contents c.flush.new.self) c.loop-request-test.false are c.loop-request.invariant c.flush.ensures.bytes)
