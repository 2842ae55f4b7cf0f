use Rattle.ct_names.proofs.Naming.{names_texts_differ}
use Rattle.ct_names.proofs.bytes_laws.names_texts_differ.Goals as goal

pub returns : goal.returns
returns c = names_texts_differ
