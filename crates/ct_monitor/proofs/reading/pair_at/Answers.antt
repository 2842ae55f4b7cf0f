use Rattle.ct_monitor.proofs.NoTexts.{no_waiting}
use Rattle.ct_monitor.proofs.reading.pair_at.Goals as goal

pub returns-in_default-head_at : goal.returns-in_default-head_at
returns-in_default-head_at c =
    no_waiting c.args.reader.now c.head_at.new.reader c.in-Some.accepted c.in-Some.ensures.0 c.in-Some.ensures.1 c.in_default-head_at.ensures
