use Rattle.std.proofs.Common.{◌≡◌, ℕ, List, ◌++◌, map, ap, ◌∙◌}
use Rattle.std.proofs.lemmas.Result.{IfOk-at_ok}
use Rattle.shared_table.specs.declared.slots.Slot.{Slot}
use Rattle.shared_table.specs.Looked.{looked, places_in}
use Rattle.shared_table.proofs.Positions.{placed-append}
use Rattle.ct_core.specs.Leaf.{leaves_of}
use Rattle.ct_core.specs.LeafHashes.{address_of}
use Rattle.ct_core.specs.Tree.{sha256_leaf}
use Rattle.ct_core.proofs.leaf_table.LeafTable.with_entries.Goals as goal

pub invariant_of-result : goal.invariant_of-result
invariant_of-result c =
    let old = c.self.inside.nodes in
    let table = c.self.inside.by_hash in
    let slots = c.in_ok-nodes.slots.items in
    let later : List (List ℕ) = map sha256_leaf (leaves_of c.args.entries.now) in
    let made = c.in_ok-nodes-2.ensures.both in
    let more : (b : ℕ) → looked c.in_ok-nodes-2.by_hash b ≡ looked table b ++ places_in c.deref.result.now b = IfOk-at_ok _ made.1 c.with_all-by_hash.ensures in
    let grown : (b : ℕ) → looked c.in_ok-nodes-2.by_hash b ≡ looked table b ++ places_in slots b =
    λ b. more b ∙ ap (λ (xs : List Slot). looked table b ++ places_in xs b) c.deref.ensures.value in
    let all : c.in_ok-nodes-2.nodes ≡ old ++ later = IfOk-at_ok (λ (ns : List (List ℕ)). ns ≡ old ++ later) made.0 c.in_ok-nodes.ensures.pushed in
    placed-append address_of (looked table) (looked c.in_ok-nodes-2.by_hash) slots old later c.in_ok-nodes-2.nodes c.self.invariant grown
    c.in_ok-nodes.ensures.noted all
