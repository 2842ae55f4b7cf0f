use Rattle.ct_codec.proofs.Again.{written_chains_are_read}
use Rattle.ct_codec.proofs.laws.written_chains_are_read.Goals as goal

pub returns : goal.returns
returns c = written_chains_are_read
