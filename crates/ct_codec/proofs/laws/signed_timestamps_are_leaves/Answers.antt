use Rattle.ct_codec.proofs.Signed.{signed_timestamps_are_leaves}
use Rattle.ct_codec.proofs.laws.signed_timestamps_are_leaves.Goals as goal

pub returns : goal.returns
returns c = signed_timestamps_are_leaves
