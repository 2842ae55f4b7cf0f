use Rattle.ct_codec.proofs.Apart.{pre_chains_stand_apart}
use Rattle.ct_codec.proofs.laws.pre_chains_stand_apart.Goals as goal

pub returns : goal.returns
returns c = pre_chains_stand_apart
