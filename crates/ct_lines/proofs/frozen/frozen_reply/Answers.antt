use Rattle.ct_lines.proofs.Asking.{reply_told}
use Rattle.ct_lines.proofs.frozen.frozen_reply.Goals as goal

pub returns : goal.returns
returns c =
    reply_told c.args.log.now c.args.line.now c.reply_text.result c.line_reply.result c.in_ok-answer.answer c.from.result.answer c.in_ok-answer.was
    c.from.ensures c.reply_text.ensures c.line_reply.ensures
