use Rattle.ct_codec.specs.Bytes.{num}
use Rattle.ct_step.proofs.bundle.number_bytes_4.Goals as goal

pub returns : goal.returns
unfolding num
returns c = c.to_be_bytes.ensures
