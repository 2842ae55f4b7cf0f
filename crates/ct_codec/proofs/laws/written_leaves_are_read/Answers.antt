use Rattle.ct_codec.proofs.Again.{written_leaves_are_read}
use Rattle.ct_codec.proofs.laws.written_leaves_are_read.Goals as goal

pub returns : goal.returns
returns c = written_leaves_are_read
