use Rattle.std.proofs.Common.{ap, arith, length}
use Rattle.ct_data_tiles.proofs.Named.{eight, only_index}
use Rattle.ct_data_tiles.proofs.index.last_number.Goals as goal

pub returns-in-Some-clause-only : goal.returns-in-Some-clause-only
returns-in-Some-clause-only c i low named =
    let number = c.number_of_5.ensures in
    only_index c.args.extensions.now c.in-Some.bytes.now c.number_of_5.result i number.fits number.value c.in-Some.ensures.cases.1.same low named

pub returns-in-None-clause-only : goal.returns-in-None-clause-only
returns-in-None-clause-only c i low named =
    let size = ap length named in
    let eight = eight i in
    let short = c.in-None.ensures.cases in
    absurd (omega (arith, size, eight, short))
