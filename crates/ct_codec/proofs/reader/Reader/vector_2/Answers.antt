use Rattle.std.proofs.Common.{arith}
use Rattle.ct_codec.proofs.Leaves.{cut_length, cut_content}
use Rattle.ct_codec.proofs.reader.Reader.vector_2.Goals as goal

pub returns-in_default-clause-none : goal.returns-in_default-clause-none
returns-in_default-clause-none c = cut_length 2 c.args.self.now (omega arith) c.in_default.ensures.none

pub returns-in_default-bytes-clause-none : goal.returns-in_default-bytes-clause-none
returns-in_default-bytes-clause-none c =
    cut_content 2 c.args.self.now c.number_2.new.self c.in-Some.size c.in-Some.ensures.fits c.in_default-bytes.ensures.none c.in-Some.ensures.some
