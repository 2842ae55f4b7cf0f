use Rattle.std.proofs.Common.{◌≡◌, ℕ, [], length}
use Rattle.shared_table.specs.Looked.{places_in, at_index}
use Rattle.shared_table.proofs.slots.empty_parts.Given as goal

abbrev pub invariant-loop : goal.invariant-loop
invariant-loop l = (length l.parts.items ≡ l.counter) × ((k b : ℕ) → at_index l.parts.items (λ p a. places_in p.items a) k b ≡ [])
