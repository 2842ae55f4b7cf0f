use Rattle.std.proofs.Common.{◌≡◌, ◌++◌}
use Rattle.std.specs.List.{AllZip}
use Rattle.std.specs.Vec.Iter.{into_iter_items}
use Rattle.ct_workers.specs.Parties.{fronts_of}
use Rattle.ct_workers.specs.Shifts.{Succeeds}
use Rattle.ct_workers.proofs.ShiftLemmas.{Going}
use Rattle.ct_workers.proofs.shifting.all_go_on.Given as goal

abbrev pub invariant-loop-party : goal.invariant-loop-party
invariant-loop-party g l =
    (goal.iterator-loop-party g).can_next l.party-iterator × (goal.iterator-loop-party g).is_finite l.party-iterator
    × (l.yielded ++ into_iter_items l.party-iterator ≡ l.fn.parties.items)
    × Going l.fn.sequencer l.sequencer (fronts_of l.yielded) l.now
    × AllZip (Succeeds l.fn.sequencer.core.published) l.yielded l.successors.items × (l.ends ≡ l.fn.ends)
