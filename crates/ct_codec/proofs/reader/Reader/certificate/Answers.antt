use Rattle.std.proofs.Common.{rules, ◌<◌}
use Rattle.ct_codec.proofs.Leaves.{vector_cut_length, vector_cut_content}
use Rattle.ct_codec.proofs.reader.Reader.certificate.Goals as goal

pub returns-in_default-clause-fault : goal.returns-in_default-clause-fault
returns-in_default-clause-fault c = vector_cut_length c.args.self.now c.in_default.ensures.none

pub returns-in_default-bytes-clause-fault : goal.returns-in_default-bytes-clause-fault
returns-in_default-bytes-clause-fault c =
    let low : 0 < c.in-Some.size = search rules in
    vector_cut_content c.args.self.now c.number_3.new.self c.in-Some.size low c.in-Some.ensures.fits c.in_default-bytes.ensures.none c.in-Some.ensures.some
