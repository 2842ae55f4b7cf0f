use Rattle.std.proofs.Common.{ap, ◌∙◌}
use Rattle.std.specs.Prelude.{position, ◌==◌}
use Rattle.shared_table.specs.Looked.{first_where}
use Rattle.ct_core.specs.declared.settled.Settled.{Settled}
use Rattle.ct_core.specs.Tickets.{is_ticket_at}
use Rattle.ct_core.proofs.TicketPlaces.{first_of_ticket}
use Rattle.ct_core.proofs.record_table.RecordTable.place_of.Goals as goal

pub returns : goal.returns
returns c =
    let records = c.self.inside.records in
    let ticket = c.args.ticket in
    c.first_place.ensures
    ∙ ap (first_where (is_ticket_at records ticket)) (c.self.invariant ticket)
    ∙ first_of_ticket records ticket
    ∙ ap (position (λ (r : Settled). r.ticket == ticket)) c.self.view_is
