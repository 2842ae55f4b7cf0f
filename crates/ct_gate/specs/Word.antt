-- The rule of the gate word, which holds between any two steps. The low 63 bits of the word count draws, and bit 63 means that the gate is
-- shut.
use Rattle.std.specs.Prelude.{◌≡◌, ℕ, ◌+◌, ◌^◌, ◌<◌, ◌≤◌, ◌⊎◌, true, false, List, [], ◌∷◌, length, All, flat_map, Some, None}
use Rattle.atomic_table.specs.Table.{State}
use Rattle.ct_codec.specs.Items.{EachOnceBelow, Rises}
use Rattle.ct_gate.specs.Seats.{FrontTickets, SeatView, fronts_in, tickets_in, refused_draws, EachView}

-- the tickets of one front rise, and there are at most 2 ^ 32
abbrev pub HasTickets : FrontTickets → Type 0
HasTickets f = Rises f.tickets × (length f.tickets ≤ 2 ^ 32)

-- The tickets of each front rise, and there are at most 2 ^ 32. A view has at most one refused draw for each of its fronts, and none unless
-- it knows of the shutdown. Only the shutter's view can have a number of accepted submissions.
pub record IsSound (v : SeatView) : Type 0 where
  pub tickets : All HasTickets v.fronts
  pub refused : v.refused ≤ length v.fronts
  pub unknown : v.knows_shutdown ≡ false → v.refused ≡ 0
  pub others : v.is_shutter ≡ false → v.accepted ≡ None

-- Bit 63 is clear. The tickets are exactly the draws so far, and no view knows of a shutdown or has a number of accepted submissions.
pub record IsOpen (word : ℕ) (views : List SeatView) : Type 0 where
  pub clear : word < 2 ^ 63
  pub tickets : EachOnceBelow word (flat_map tickets_in views)
  pub unknown : EachView (λ _ v. (v.knows_shutdown ≡ false) × (v.accepted ≡ None)) views

-- Bit 63 is set. The tickets are the n draws before that, each later draw was refused, and the shutter's number of accepted submissions is
-- n.
pub record IsShut (n word : ℕ) (views : List SeatView) : Type 0 where
  pub tickets : EachOnceBelow n (flat_map tickets_in views)
  pub draws : word ≡ 2 ^ 63 + n + refused_draws views
  pub accepted : EachView (λ _ v. v.is_shutter ≡ true → v.accepted ≡ Some n) views

-- The rule of the gate word, which holds between any two atomic steps:
--
-- - There is one word, for at most 16 fronts.
-- - The views hold the fronts, each exactly once. Each view is sound, and at most one is the shutter's.
-- - The gate is open or shut.
pub record GateHolds (fronts : ℕ) (state : State (Unit {0}) SeatView) : Type 0 where
  pub word : ℕ
  pub words : state.words ≡ word ∷ []
  pub limit : fronts ≤ 16
  pub dealt : EachOnceBelow fronts (flat_map fronts_in state.views)
  pub shutter : ℕ
  pub seats : EachView (λ id v. IsSound v × (v.is_shutter ≡ true → id ≡ shutter)) state.views
  pub phase : IsOpen word state.views ⊎ ((n : ℕ) × IsShut n word state.views)
