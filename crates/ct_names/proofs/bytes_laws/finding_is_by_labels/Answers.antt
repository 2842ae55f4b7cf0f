use Rattle.ct_names.proofs.Telling.{finding_is_exact}
use Rattle.ct_names.proofs.bytes_laws.finding_is_by_labels.Goals as goal

pub returns : goal.returns
returns c = finding_is_exact
