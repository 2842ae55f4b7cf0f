use Rattle.ct_data_tiles.proofs.NamesRead.{names_differ}
use Rattle.ct_data_tiles.proofs.name_laws.names.Goals as goal

pub returns : goal.returns
returns c = record { differ = names_differ }
