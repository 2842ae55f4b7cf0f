use Rattle.libwagtenib.proofs.MonitorAnswers.{gives}
use Rattle.libwagtenib.proofs.monitor.give.Goals as goal

pub returns : goal.returns
returns c =
    gives c.args.answer.now c.write_state-code.result c.args.verdict.now c.verdict_after-told.result c.args.out.now c.write_state-code.new.out
    c.write_state-code.new.length c.write_state-code.ensures c.verdict_after-told.ensures
