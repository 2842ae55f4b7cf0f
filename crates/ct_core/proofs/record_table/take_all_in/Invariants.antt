use Rattle.std.proofs.Common.{◌≡◌, ◌++◌, length, take}
use Rattle.ct_core.specs.Tickets.{AreEntered}
use Rattle.ct_core.proofs.record_table.take_all_in.Given as goal

abbrev pub invariant-loop-settled : goal.invariant-loop-settled
invariant-loop-settled l =
    (l.records ≡ l.initial.records ++ take l.settled-index l.more)
    × AreEntered l.slots.items (length l.initial.records) (take l.settled-index l.more)
