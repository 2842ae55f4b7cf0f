use Rattle.std.proofs.Common.{arith}
use Rattle.ct_monitor.proofs.NoTexts.{no_version, second_version, first_version}
use Rattle.ct_monitor.proofs.reading.heads_at.Goals as goal

pub returns-in_default : goal.returns-in_default
returns-in_default c = no_version c.args.reader.now c.in_default.ensures.none

pub returns-then-version-eq2 : goal.returns-then-version-eq2
returns-then-version-eq2 c =
    second_version c.args.reader.now c.number_1.new.self c.second_heads_at.new.reader c.in-Some.version c.second_heads_at.result c.in-Some.ensures.some
    (omega (arith, c.if-version-eq2.true)) c.second_heads_at.ensures

pub returns-then-version-eq1 : goal.returns-then-version-eq1
returns-then-version-eq1 c =
    first_version c.args.reader.now c.number_1.new.self c.first_heads_at.new.reader c.in-Some.version c.first_heads_at.result c.in-Some.ensures.some
    (omega (arith, c.if-version-eq1.true)) c.first_heads_at.ensures
