use Rattle.ct_codec.proofs.Refusals.{fine}
use Rattle.ct_codec.proofs.writing.push_precertificate.Goals as goal

pub push_vector-requires : goal.push_vector-requires
push_vector-requires g c = rw c.end_entity.ensures (fine c.args.submission.now c.in_range.ensures.lengths).first.1
