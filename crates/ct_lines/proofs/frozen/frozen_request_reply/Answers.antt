use Rattle.ct_lines.specs.Frozen.{frozen_answer}
use Rattle.ct_lines.specs.Requests.{frozen_asked}
use Rattle.ct_lines.proofs.Asking.{reply_of_line, text_told}
use Rattle.ct_lines.proofs.Built.{answers_built}
use Rattle.ct_lines.proofs.frozen.frozen_request_reply.Goals as goal

pub returns-clause-reply : goal.returns-clause-reply
returns-clause-reply c =
    text_told (frozen_answer c.args.log.now (frozen_asked c.args.request.now)) c.reply_text.result c.request_reply.result c.in_ok-answer.answer
    c.from.result.answer c.in_ok-answer.was c.from.ensures c.reply_text.ensures (answers_built c.request_reply.result _ c.request_reply.ensures)

pub returns-clause-of_line : goal.returns-clause-of_line
returns-clause-of_line c =
    let asked = frozen_asked c.args.request.now in
    reply_of_line c.args.log.now asked c.reply_text.result
    (text_told (frozen_answer c.args.log.now asked) c.reply_text.result c.request_reply.result c.in_ok-answer.answer
    c.from.result.answer c.in_ok-answer.was c.from.ensures c.reply_text.ensures (answers_built c.request_reply.result _ c.request_reply.ensures))
