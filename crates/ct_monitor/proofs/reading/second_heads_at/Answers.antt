use Rattle.ct_monitor.proofs.NoTexts.{no_newest}
use Rattle.ct_monitor.proofs.reading.second_heads_at.Goals as goal

pub returns-in_default-newest_at : goal.returns-in_default-newest_at
returns-in_default-newest_at c =
    no_newest c.args.reader.now c.pair_at.new.reader c.in-Some.pair.accepted c.in-Some.pair.waiting c.in-Some.ensures.0 c.in-Some.ensures.1 c.in-Some.ensures.2
    c.in_default-newest_at.ensures
