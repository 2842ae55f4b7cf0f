-- The knowledge of the seats at the gate word. A seat's view holds fronts, each with the tickets that were drawn for it.
use Rattle.std.specs.Prelude.{◌≡◌, ℕ, ◌+◌, Bool, true, false, List, [], ◌∷◌, map, flat_map, Option, None}
use mathlib.Core.Option.{some}
use lib.ListN.{get_elem?}

-- a front's number, and the tickets that were drawn for it, in order
pub record FrontTickets : Type 0 where
  pub front : ℕ
  pub tickets : List ℕ

-- the knowledge of a seat: the fronts that it holds, whether it knows of the shutdown, how many refused draws it made, whether it is the
-- shutter's, and how many submissions were accepted, if it shut the gate
pub record SeatView : Type 0 where
  pub fronts : List FrontTickets
  pub knows_shutdown : Bool
  pub refused : ℕ
  pub is_shutter : Bool
  pub accepted : Option ℕ

-- the numbers of the fronts that the view holds
abbrev pub fronts_in : SeatView → List ℕ
fronts_in v = map (λ f. f.front) v.fronts

-- the tickets of all these fronts
abbrev pub tickets_in : SeatView → List ℕ
tickets_in v = flat_map (λ f. f.tickets) v.fronts

-- how many refused draws were made in all
abbrev pub refused_draws : List SeatView → ℕ
refused_draws [] = 0
refused_draws (v ∷ vs) = v.refused + refused_draws vs

-- P holds for the number and view of each seat
abbrev pub EachView : (ℕ → SeatView → Type 0) → List SeatView → Type 0
EachView P views = (id : ℕ) (v : SeatView) → get_elem? views id ≡ some v → P id v

-- the knowledge of the seat of one front
abbrev pub view_of_front : ℕ → List ℕ → Bool → ℕ → SeatView
view_of_front number tickets knows_shutdown refused =
    record {
      fronts = record { front = number; tickets = tickets } ∷ [];
      knows_shutdown = knows_shutdown;
      refused = refused;
      is_shutter = false;
      accepted = None;
    }

-- the knowledge of the shutter's seat
abbrev pub view_of_shutter : Option ℕ → SeatView
view_of_shutter accepted = record { fronts = []; knows_shutdown = false; refused = 0; is_shutter = true; accepted = accepted }

-- the knowledge of a seat that holds no front
abbrev pub nothing_known : SeatView
nothing_known = record { fronts = []; knows_shutdown = false; refused = 0; is_shutter = false; accepted = None }
