use Rattle.json_lines.proofs.Sent.{sent_some}
use Rattle.json_lines.proofs.sending.tell.Goals as goal

pub returns : goal.returns
returns g c =
    sent_some c.write_whole.result (g.W.Write.contents c.args.output.now) (g.W.Write.contents c.write_whole.new.writer) c.args.bytes.now
    c.write_whole.ensures.all c.write_whole.ensures.some
