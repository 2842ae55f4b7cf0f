use Rattle.std.proofs.Common.{arith}
use Rattle.ct_monitor.proofs.NoTexts.{no_fields}
use Rattle.ct_monitor.proofs.reading.head_at.Goals as goal

pub returns-in-None : goal.returns-in-None
returns-in-None c =
    no_fields c.args.reader.now c.number_1.new.self c.in-Some.mark c.in-Some.ensures.some (omega (arith, c.if-mark-ne1.false)) c.in-None.ensures
