use Rattle.ct_names.specs.Names.{named_all}
use Rattle.ct_names.proofs.Telling.{found_named}
use Rattle.ct_names.proofs.watched.find_watched.Goals as goal

pub returns-clause-named : goal.returns-clause-named
returns-clause-named c = found_named (named_all c.args.names.now) c.args.watched.now c.found_among.result c.found_among.ensures
