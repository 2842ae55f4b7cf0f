use Rattle.std.proofs.Common.{arith, map}
use Rattle.ct_step.proofs.Contents.{read-stuck, read-less}
use Rattle.ct_step.proofs.reading.contents_of.Goals as goal

pub returns-in_default : goal.returns-in_default
returns-in_default c =
    read-stuck (map (λ b. b.items) c.contents.contents.items) c.args.bytes.now c.contents.reader c.contents.invariant
    (λ z. grind (arith, z, c.is_at_end.ensures, c.contents-test.true))
    c.in_default.ensures.none

pub contents-smaller : goal.contents-smaller
contents-smaller c = read-less c.in-Some.content.now c.contents.reader c.content_at.new.reader c.in-Some.ensures.some.1
