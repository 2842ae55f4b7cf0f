use Rattle.std.proofs.Common.{◌≡◌, take, None}
use Rattle.shared_table.specs.Looked.{places_in, first_where}
use Rattle.shared_table.proofs.search.first_of.Given as goal

abbrev pub invariant-loop-slot : goal.invariant-loop-slot
invariant-loop-slot g l = first_where (g.T.Test.passes l.test) (places_in (take l.slot-index l.slots) l.rest) ≡ None
