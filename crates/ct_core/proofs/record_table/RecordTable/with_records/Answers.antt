use Rattle.std.proofs.Common.{◌≡◌, ℕ, List, ◌++◌, ap, ◌∙◌}
use Rattle.std.proofs.lemmas.Result.{IfOk-at_ok}
use Rattle.shared_table.specs.declared.slots.Slot.{Slot}
use Rattle.shared_table.specs.Looked.{looked, places_in}
use Rattle.shared_table.proofs.Positions.{placed-append}
use Rattle.ct_core.specs.declared.settled.Settled.{Settled}
use Rattle.ct_core.specs.Tickets.{ticket_of}
use Rattle.ct_core.proofs.record_table.RecordTable.with_records.Goals as goal

pub invariant_of-result : goal.invariant_of-result
invariant_of-result c =
    let old = c.self.inside.records in
    let table = c.self.inside.by_ticket in
    let slots = c.in_ok-records.slots.items in
    let later = c.args.more.now in
    let made = c.in_ok-records-2.ensures.both in
    let more : (b : ℕ) → looked c.in_ok-records-2.by_ticket b ≡ looked table b ++ places_in c.deref.result.now b =
    IfOk-at_ok _ made.1 c.with_all-by_ticket.ensures in
    let grown : (b : ℕ) → looked c.in_ok-records-2.by_ticket b ≡ looked table b ++ places_in slots b =
    λ b. more b ∙ ap (λ (xs : List Slot). looked table b ++ places_in xs b) c.deref.ensures.value in
    let all : c.in_ok-records-2.records ≡ old ++ later = IfOk-at_ok (λ (rs : List Settled). rs ≡ old ++ later) made.0 c.in_ok-records.ensures.pushed in
    placed-append ticket_of (looked table) (looked c.in_ok-records-2.by_ticket) slots old later c.in_ok-records-2.records c.self.invariant grown
    c.in_ok-records.ensures.entered all
