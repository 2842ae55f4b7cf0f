use Rattle.std.proofs.Common.{arith, map}
use Rattle.ct_names.proofs.Listing.{read-stuck, read-less}
use Rattle.ct_names.proofs.name_lists.list_of.Goals as goal

pub returns-in_default : goal.returns-in_default
returns-in_default c =
    read-stuck (map (λ b. b.now) c.names.names.items) c.args.bytes.now c.names.reader c.names.invariant
    (λ z. grind (arith, z, c.is_at_end.ensures, c.names-test.true))
    c.in_default.ensures.none

pub names-smaller : goal.names-smaller
names-smaller c = read-less c.in-Some.name.now c.names.reader c.name_at.new.reader c.in-Some.ensures.some.1
