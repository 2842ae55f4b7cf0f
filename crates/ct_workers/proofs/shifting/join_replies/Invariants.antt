use Rattle.std.proofs.Common.{◌≡◌}
use Rattle.std.specs.List.{flat_map}
use Rattle.ct_workers.specs.Parties.{fronts_of}
use Rattle.ct_workers.specs.declared.party.FrontParty.{FrontParty}
use Rattle.ct_workers.proofs.shifting.join_replies.Given as goal

abbrev pub invariant-loop-party : goal.invariant-loop-party
invariant-loop-party l = (l.fronts.items ≡ fronts_of l.yielded) × (l.all.items ≡ flat_map (λ (p : FrontParty). p.replies.items) l.yielded)
