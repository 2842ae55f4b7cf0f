-- Each clause is a lemma.
use Rattle.ct_node.proofs.Ahead.{goes_behind_none, creates_over_nothing, shown_never_goes_back}
use Rattle.ct_node.proofs.Told.{answers_tell}
use Rattle.ct_node.proofs.laws.starts.Goals as goal

pub returns : goal.returns
returns c = record { goes = goes_behind_none; creates = creates_over_nothing; tells = answers_tell; shown = shown_never_goes_back }
