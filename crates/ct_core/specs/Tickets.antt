-- The table from ticket to the first record that has it.
use Rattle.std.specs.Prelude.{ℕ, List, slice_get, Option, Some, None, Bool, false, ◌==◌}
use Rattle.shared_table.specs.Looked.{HasPlaces, ArePlaced}
use Rattle.shared_table.specs.declared.slots.Slot.{Slot}
use Rattle.shared_table.specs.declared.table.Table.{Table}
use Rattle.ct_core.specs.declared.settled.Settled.{Settled}

-- the record's ticket
abbrev pub ticket_of : Settled → ℕ
ticket_of r = r.ticket

-- whether there is a record, and it has that ticket
abbrev pub is_of_ticket : ℕ → Option Settled → Bool
is_of_ticket ticket None = false
is_of_ticket ticket (Some r) = r.ticket == ticket

-- whether the record at index k has that ticket
abbrev pub is_ticket_at : List Settled → ℕ → ℕ → Bool
is_ticket_at records ticket k = is_of_ticket ticket (slice_get records k)

-- the table has the index of each record, by its ticket
abbrev pub IsByTicket : Table → List Settled → Type 0
IsByTicket table records = HasPlaces ticket_of table records

-- the slots have the indexes of these records by their tickets; the first record has index k
abbrev pub AreEntered : List Slot → ℕ → List Settled → Type 0
AreEntered slots k records = ArePlaced ticket_of slots k records
