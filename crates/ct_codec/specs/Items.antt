-- Accepted submissions: items, merges of lists of items, and their tickets.
use Rattle.std.specs.Prelude.{◌≡◌, ℕ, ◌+◌, ◌<◌, ◌==◌, List, [], ◌∷◌, length, map, filter, slice_get, Some, All, AllPairs, flat_map, if◌then◌else◌, nat_lt}
use Rattle.ct_codec.specs.declared.item.Item.{Item}

-- the items that were submitted through that front, in order
abbrev pub items_of : ℕ → List Item → List Item
items_of front items = filter (λ x. x.front == front) items

-- Each item carries the number of one of the lists. For each number, the items that carry it are, in order, the list with that number.
pub record Merge (lists : List (List Item)) (items : List Item) : Type 0 where
  pub numbered : All (λ x. x.front < length lists) items
  pub in_order : (f : ℕ) (xs : List Item) → slice_get lists f ≡ Some xs → items_of f items ≡ xs

-- the tickets of items, in order
abbrev pub tickets_of : List Item → List ℕ
tickets_of items = map (λ (x : Item). x.ticket) items

-- the number of times that x occurs in the list
abbrev pub times : ℕ → List ℕ → ℕ
times x [] = 0
times x (y ∷ ys) = (if y == x then 1 else 0) + times x ys

-- the numbers of the list are 0 to n - 1, each once
abbrev pub EachOnceBelow : ℕ → List ℕ → Type 0
EachOnceBelow n xs = (x : ℕ) → times x xs ≡ (if nat_lt x n then 1 else 0)

-- each number is below all later ones
abbrev pub Rises : List ℕ → Type 0
Rises xs = AllPairs (λ a b. a < b) xs

-- In each list the tickets rise. Over all lists they are 0 to n - 1, each once.
abbrev pub Tickets : List (List ℕ) → ℕ → Type 0
Tickets lists n = All Rises lists × EachOnceBelow n (flat_map (λ l. l) lists)
