use Rattle.std.proofs.Common.{arith}
use Rattle.ct_monitor.proofs.NoTexts.{no_length, no_content}
use Rattle.ct_monitor.proofs.reading.vector_at.Goals as goal

pub returns-in_default : goal.returns-in_default
returns-in_default c = λ x r h e. no_length c.args.reader.now x r c.in_default.ensures.none e

pub returns-in_default-bytes : goal.returns-in_default-bytes
returns-in_default-bytes c = λ x r h e.
    no_content c.in-Some.length c.args.reader.now c.number_8.new.self x r c.in-Some.ensures.fits h (omega (arith, c.in_default-bytes.ensures.none)) c.in-Some.ensures.some e
