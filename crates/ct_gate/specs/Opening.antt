-- A new gate. At first one seat holds all fronts. Then each front in turn is split off into a seat of its own.
use Rattle.std.specs.Prelude.{◌≡◌, ℕ, zero, suc, ◌+◌, Bool, true, false, List, [], ◌∷◌, length, slice_get, None, Some}
use Rattle.atomic_table.specs.Seated.{TableId}
use Rattle.ct_gate.specs.Seats.{FrontTickets, SeatView}
use Rattle.ct_gate.specs.Ends.{IntakeView, OutletView, AreEnds}

-- n fronts without tickets, numbered from k on
abbrev pub new_fronts : ℕ → ℕ → List FrontTickets
new_fronts k zero = []
new_fronts k (suc n) = record { front = k; tickets = [] } ∷ new_fronts (k + 1) n

-- the view that holds these fronts, when nothing was drawn or refused and nothing is known
abbrev pub view_of_fronts : List FrontTickets → Bool → SeatView
view_of_fronts fs is_shutter = record { fronts = fs; knows_shutdown = false; refused = 0; is_shutter = is_shutter; accepted = None }

-- the view of the seat that opens a gate with n fronts
abbrev pub all_in_one : ℕ → SeatView
all_in_one n = view_of_fronts (new_fronts 0 n) true

-- all fronts after the first
abbrev pub without_first : List FrontTickets → List FrontTickets
without_first [] = []
without_first (f ∷ fs) = fs

-- only the first front
abbrev pub first_alone : List FrontTickets → List FrontTickets
first_alone [] = []
first_alone (f ∷ fs) = f ∷ []

-- the view without its first front
abbrev pub rest_of : SeatView → SeatView
rest_of v = record { fronts = without_first v.fronts; knows_shutdown = v.knows_shutdown; refused = v.refused; is_shutter = v.is_shutter; accepted = v.accepted }

-- the view of the first front: no refused draws, and not the shutter's
abbrev pub first_seat : SeatView → SeatView
first_seat v = record { fronts = first_alone v.fronts; knows_shutdown = v.knows_shutdown; refused = 0; is_shutter = false; accepted = None }

-- The ends of the k-th front of a new gate. They share one ring with this capacity. All its slots are known to be free, and no item has
-- passed through it.
pub record IsNewFront (of_gate : TableId) (with_places k : ℕ) (i : IntakeView) (o : OutletView) : Type 0 where
  pub gate : i.gate ≡ of_gate
  pub number : i.number ≡ k
  pub places : i.places ≡ with_places
  pub accepted : i.accepted ≡ []
  pub knows_shutdown : i.knows_shutdown ≡ false
  pub free : i.free ≡ with_places
  pub ends : AreEnds i o
  pub received : o.received ≡ []

-- the intakes and the outlets of a new gate: as many of each as it has fronts, in the fronts' order, and no item has passed through any
pub record AreNewFronts (gate : TableId) (places fronts : ℕ) (intakes : List IntakeView) (outlets : List OutletView) : Type 0 where
  pub intake_count : length intakes ≡ fronts
  pub outlet_count : length outlets ≡ fronts
  pub each : (k : ℕ) (i : IntakeView) (o : OutletView) → slice_get intakes k ≡ Some i → slice_get outlets k ≡ Some o → IsNewFront gate places k i o
