use Rattle.ct_workers.proofs.FrontLemmas.{shows_answered}
use Rattle.ct_workers.proofs.front_work.ask.Goals as goal

pub returns-clause-shows : goal.returns-clause-shows
returns-clause-shows c = shows_answered c.ask.result c.args.query.now c.ask.new.self.sight.seen c.ask.ensures.lawful c.ask.ensures.answer c.ask.ensures.memory
