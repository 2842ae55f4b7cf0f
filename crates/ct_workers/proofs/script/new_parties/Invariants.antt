use Rattle.std.proofs.Common.{◌≡◌, []}
use Rattle.std.specs.List.{flat_map}
use Rattle.ct_workers.specs.Parties.{fronts_of}
use Rattle.ct_workers.specs.declared.party.FrontParty.{FrontParty}
use Rattle.ct_workers.proofs.script.new_parties.Given as goal

abbrev pub invariant-loop-front : goal.invariant-loop-front
invariant-loop-front l = (fronts_of l.parties.items ≡ l.yielded) × (flat_map (λ (p : FrontParty). p.replies.items) l.parties.items ≡ [])
