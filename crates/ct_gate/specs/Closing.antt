-- The end of a gate. The shutter's seat takes in each front's seat, so that one view has all tickets.
use Rattle.std.specs.Prelude.{◌+◌, false, ◌||◌, ◌++◌, []}
use Rattle.ct_codec.specs.Items.{tickets_of}
use Rattle.ct_gate.specs.Seats.{FrontTickets, SeatView}
use Rattle.ct_gate.specs.Ends.{IntakeView}
use Rattle.ct_gate.specs.Opening.{view_of_fronts}

-- the fronts of both views; whether it is the shutter's, and its accepted count, are the first view's
abbrev pub gathered : SeatView → SeatView → SeatView
gathered v w =
    record {
      fronts = v.fronts ++ w.fronts;
      knows_shutdown = v.knows_shutdown || w.knows_shutdown;
      refused = v.refused + w.refused;
      is_shutter =
          v.is_shutter;
      accepted = v.accepted;
    }

-- a seat after its fronts were taken in: it holds none
abbrev pub spent : SeatView
spent = view_of_fronts [] false

-- an intake's front and its tickets
abbrev pub front_tickets : IntakeView → FrontTickets
front_tickets i = record { front = i.number; tickets = tickets_of i.accepted }
