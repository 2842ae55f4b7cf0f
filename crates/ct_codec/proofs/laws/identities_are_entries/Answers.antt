use Rattle.ct_codec.proofs.Identities.{identities_are_entries}
use Rattle.ct_codec.proofs.laws.identities_are_entries.Goals as goal

pub returns : goal.returns
returns c = identities_are_entries
