-- The indexes of records, by their tickets.
use Rattle.std.proofs.Common.{◌≡◌, ℕ, zero, suc, ◌+◌, ◌<◌, List, [], ◌∷◌, length, get_or, map, refl, ap, sym, ◌∙◌, arith}
use Rattle.std.specs.Prelude.{◌==◌, Some, false, position, slice_get}
use Rattle.shared_table.specs.Looked.{places_from, first_where}
use Rattle.shared_table.proofs.Positions.{first_place, position-seek}
use Rattle.ct_core.specs.declared.settled.Settled.{Settled}
use Rattle.ct_core.specs.Tickets.{ticket_of, is_of_ticket, is_ticket_at}

get_at : (records : List Settled) (j : ℕ) (d : Settled) → j < length records → slice_get records j ≡ Some (get_or records j d)
get_at [] j d h = absurd (omega arith)
get_at (r ∷ records) zero d h = refl
get_at (r ∷ records) (suc j) d h = get_at records j d (omega arith)

-- among the indexes noted for a ticket, the first at which a record has it is the index of the ticket's first record
pub first_of_ticket : (records : List Settled) (ticket : ℕ)
    → first_where (is_ticket_at records ticket) (places_from 0 (map ticket_of records) ticket) ≡ position (λ (r : Settled). r.ticket == ticket) records
first_of_ticket records ticket =
    first_place ticket_of (λ (r : Settled). r.ticket == ticket) (is_ticket_at records ticket) d ticket 0 records (λ r e. e) each
    ∙ sym (position-seek (λ (r : Settled). r.ticket == ticket) records)
  where
    d : Settled
    d = record { front = 0; ticket = 0; index = 0; first = false }

    each : (j : ℕ) → j < length records → is_ticket_at records ticket (0 + j) ≡ ((get_or records j d).ticket == ticket)
    each j below = let e : 0 + j ≡ j = omega arith in ap (is_ticket_at records ticket) e ∙ ap (is_of_ticket ticket) (get_at records j d below)
