use Rattle.libwagtenib.proofs.MonitorAnswers.{reports}
use Rattle.libwagtenib.proofs.monitor.give_report.Goals as goal

pub returns-clause-reported : goal.returns-clause-reported
returns-clause-reported c =
    reports c.args.answer.now c.give-code.result c.args.verdict.now c.give-code.new.verdict c.args.report.now c.report_after-told.result c.args.out.now
    c.give-code.new.out c.give-code.new.length c.give-code.ensures c.report_after-told.ensures
