-- The places that a table has at an address.
use Rattle.std.specs.Prelude.{◌≡◌, ℕ, ◌+◌, ◌*◌, ◌/◌, ◌%◌, ◌<◌, ◌==◌, List, [], ◌∷◌, ◌++◌, map, length, Bool, if◌then◌else◌, Option, Some, None, slice_get, Vec}
use Rattle.std.specs.Global.{Global}
use Rattle.std.specs.Arc.{arc_value}
use Rattle.shared_table.specs.declared.slots.Slot.{Slot}
use Rattle.shared_table.specs.declared.table.Row.{Row}
use Rattle.shared_table.specs.declared.table.Table.{Table}

-- the place, if its address is the given one, and otherwise nothing
abbrev pub if_at : ℕ → ℕ → ℕ → List ℕ
if_at address place a = if address == a then place ∷ [] else []

-- the places of the slots with that address, in order
abbrev pub places_in : List Slot → ℕ → List ℕ
places_in [] a = []
places_in (s ∷ slots) a = if_at s.address s.place a ++ places_in slots a

-- the places that `look` finds at an address in a part, or none if there is no part
abbrev pub in_part : {A : Type 0} → Option A → (A → ℕ → List ℕ) → ℕ → List ℕ
in_part None look a = []
in_part (Some x) look a = look x a

-- the places that `look` finds at an address in the part with that index, or none if there is no such part
abbrev pub at_index : {A : Type 0} → List A → (A → ℕ → List ℕ) → ℕ → ℕ → List ℕ
at_index xs look i a = in_part (slice_get xs i) look a

-- the places found in the part that the lowest six bits of an address select, at the higher bits of the address
abbrev pub below : {A : Type 0} → List A → (A → ℕ → List ℕ) → ℕ → List ℕ
below xs look a = at_index xs look (a % 64) (a / 64)

-- there are 64 parts: part k has the places of the slots whose addresses have k as their lowest six bits, at the higher bits of the
-- addresses
abbrev pub AreParts : List (Vec Slot Global) → List Slot → Type 0
AreParts parts slots = (length parts ≡ 64) × ((k : ℕ) → k < 64 → (b : ℕ) → at_index parts (λ p c. places_in p.items c) k b ≡ places_in slots (b * 64 + k))

-- the first n parts are those of the old list, with the places of these slots added
abbrev pub AreMore : {A : Type 0} → List A → List A → (A → ℕ → List ℕ) → List Slot → ℕ → Type 0
AreMore now old look slots n = (k : ℕ) → k < n → (b : ℕ) → at_index now look k b ≡ at_index old look k b ++ places_in slots (b * 64 + k)

-- the places that a row has at an address, in the order in which they were added
abbrev pub looked_row : Row → ℕ → List ℕ
looked_row row a = below row.buckets (λ p c. places_in (arc_value p).items c) a ++ places_in row.fresh.items a

-- the places that a table has at an address, in the order in which they were added
abbrev pub looked : Table → ℕ → List ℕ
looked table a = below table.rows (λ p c. looked_row (arc_value p) c) a ++ places_in table.fresh.items a

-- the first number of the list that passes, if any does
abbrev pub first_where : (ℕ → Bool) → List ℕ → Option ℕ
first_where q [] = None
first_where q (k ∷ ks) = if q k then Some k else first_where q ks

-- the places at which an address occurs in a list of addresses whose first place is k
abbrev pub places_from : ℕ → List ℕ → ℕ → List ℕ
places_from k [] a = []
places_from k (x ∷ xs) a = if_at x k a ++ places_from (k + 1) xs a

-- for each element, the table has the element's place at the element's address, in order, and has nothing more
abbrev pub HasPlaces : {X : Type 0} → (X → ℕ) → Table → List X → Type 0
HasPlaces at table xs = (a : ℕ) → looked table a ≡ places_from 0 (map at xs) a

-- the slots have the places of these elements at the elements' addresses, and the first element has the place k
abbrev pub ArePlaced : {X : Type 0} → (X → ℕ) → List Slot → ℕ → List X → Type 0
ArePlaced at slots k xs = (a : ℕ) → places_in slots a ≡ places_from k (map at xs) a

-- if the old slots have the places of some elements, the last of which has the place n - 1, the new slots have these places and also the
-- place n of x
abbrev pub AddsPlace : {X : Type 0} → (X → ℕ) → List Slot → List Slot → ℕ → X → Type 0
AddsPlace {X} at old new n x =
    (k : ℕ) (xs : List X) → n ≡ k + length xs → ArePlaced at old k xs → ArePlaced at new k (xs ++ x ∷ [])
