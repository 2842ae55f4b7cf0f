use Rattle.std.proofs.Common.{◌≡◌, List, [], ◌∷◌, ◌++◌, length, refl, ap, ◌∙◌, arith}
use Rattle.std.proofs.lemmas.Grind.{common_steps}
use Rattle.shared_table.specs.declared.slots.Slot.{Slot}
use Rattle.shared_table.specs.Looked.{places_in}
use Rattle.shared_table.proofs.Positions.{placed-push}
use Rattle.ct_core.specs.Tickets.{ticket_of}
use Rattle.ct_core.proofs.record_table.take_in.Goals as goal

pub returns-clause-entered : goal.returns-clause-entered
returns-clause-entered c =
    let s : Slot = record { address = c.args.settled.ticket; place = c.len.result } in
    let pushed : c.push.new.self.items ≡ c.args.slots.now.items ++ s ∷ [] = grind (arith, common_steps) in
    λ k rs count are a. ap (λ (xs : List Slot). places_in xs a) pushed
    ∙ placed-push ticket_of c.args.slots.now.items s k (length c.args.records.now) rs c.args.settled refl c.len.ensures count are a
