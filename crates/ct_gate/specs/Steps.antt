-- The steps on the gate word, and what the seat that makes a step learns from it.
use Rattle.std.specs.Prelude.{◌≡◌, ℕ, ◌+◌, ◌^◌, ◌<◌, ◌≤◌, true, List, [], ◌∷◌, ◌++◌, Some}
use Rattle.atomic_table.specs.Table.{Me, Step}
use Rattle.ct_gate.specs.Seats.{FrontTickets, SeatView}

-- the first front has one more ticket
abbrev pub with_ticket : ℕ → List FrontTickets → List FrontTickets
with_ticket t [] = []
with_ticket t (f ∷ fs) = record { front = f.front; tickets = f.tickets ++ t ∷ [] } ∷ fs

-- a draw while the gate is open
abbrev pub after_draw : ℕ → SeatView → SeatView
after_draw t v = record {
  fronts = with_ticket t v.fronts;
  knows_shutdown = v.knows_shutdown;
  refused = v.refused;
  is_shutter =
      v.is_shutter;
  accepted = v.accepted;
}

-- a draw that finds the shutdown
abbrev pub after_refusal : SeatView → SeatView
after_refusal v = record { fronts = v.fronts; knows_shutdown = true; refused = v.refused + 1; is_shutter = v.is_shutter; accepted = v.accepted }

-- a glance (a read of the word) that finds the shutdown
abbrev pub after_glance : SeatView → SeatView
after_glance v = record { fronts = v.fronts; knows_shutdown = true; refused = v.refused; is_shutter = v.is_shutter; accepted = v.accepted }

-- the shutdown, after n draws
abbrev pub after_shut : ℕ → SeatView → SeatView
after_shut n v = record { fronts = v.fronts; knows_shutdown = v.knows_shutdown; refused = v.refused; is_shutter = v.is_shutter; accepted = Some n }

-- the view becomes `clear` of it if bit 63 of the word found was clear, and `set` of it if bit 63 was set
abbrev pub Finds : (SeatView → SeatView) → (SeatView → SeatView) → Me (Unit {0}) SeatView → ℕ → Me (Unit {0}) SeatView → Type 0
Finds clear set me found me' =
    (me'.1 ≡ me.1) × (found < 2 ^ 63 → me'.0 ≡ clear me.0) × (2 ^ 63 ≤ found → me'.0 ≡ set me.0)

-- The result of a draw: the number found is the ticket, unless bit 63 was set.
abbrev pub Draws : Step (Unit {0}) → Me (Unit {0}) SeatView → ℕ → Me (Unit {0}) SeatView → Type 0
Draws _ me found me' = Finds (after_draw found) after_refusal me found me'

-- The result of a glance: the view is unchanged, unless bit 63 was set.
abbrev pub Glances : Step (Unit {0}) → Me (Unit {0}) SeatView → ℕ → Me (Unit {0}) SeatView → Type 0
Glances _ me found me' = Finds (λ v. v) after_glance me found me'

-- The result of the shutdown: bit 63 was clear, and the number found is the number of accepted submissions.
abbrev pub Shuts : Step (Unit {0}) → Me (Unit {0}) SeatView → ℕ → Me (Unit {0}) SeatView → Type 0
Shuts _ me found me' = (me'.1 ≡ me.1) × (found < 2 ^ 63) × (me'.0 ≡ after_shut found me.0)
