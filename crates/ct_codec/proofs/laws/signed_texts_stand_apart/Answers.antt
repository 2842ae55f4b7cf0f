use Rattle.ct_codec.proofs.Signed.{signed_texts_stand_apart}
use Rattle.ct_codec.proofs.laws.signed_texts_stand_apart.Goals as goal

pub returns : goal.returns
returns c = signed_texts_stand_apart
