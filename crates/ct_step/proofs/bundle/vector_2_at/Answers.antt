use Rattle.std.proofs.Common.{arith}
use Rattle.ct_step.proofs.Bundles.{no_content}
use Rattle.ct_step.proofs.bundle.vector_2_at.Goals as goal

pub returns-in_default-bytes-clause-none : goal.returns-in_default-bytes-clause-none
returns-in_default-bytes-clause-none c = λ x r h e.
    no_content 2 c.in-Some.length c.args.reader.now c.number_2.new.self x r c.in-Some.ensures.fits h (omega (arith, c.in_default-bytes.ensures.none)) c.in-Some.ensures.some e
