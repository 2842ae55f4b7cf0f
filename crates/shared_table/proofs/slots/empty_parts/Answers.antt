use Rattle.std.proofs.Common.{◌≡◌, ◌+◌, ◌++◌, [], ◌∷◌, ℕ, List, length, ap, ◌∙◌}
use Rattle.std.proofs.lemmas.List.{length_push}
use Rattle.std.specs.Prelude.{Vec}
use Rattle.std.specs.Global.{Global}
use Rattle.shared_table.specs.declared.slots.Slot.{Slot}
use Rattle.shared_table.specs.Looked.{places_in, at_index}
use Rattle.shared_table.proofs.Sides.{empty_push}
use Rattle.shared_table.proofs.slots.empty_parts.Goals as goal

pub loop-preserved : goal.loop-preserved
loop-preserved c =
    let look : Vec Slot Global → ℕ → List ℕ = λ p a. places_in p.items a in
    let (size, none) = c.loop.invariant in
    let parts = c.loop.parts.items in
    let part = c.new.result in
    let pushed : c.push.new.self.items ≡ parts ++ part ∷ [] = c.in_ok-push.ensures.items in (
      ap length pushed ∙ length_push parts part ∙ ap (λ (n : ℕ). n + 1) size,
      λ k b. ap (λ (ps : List (Vec Slot Global)). at_index ps look k b) pushed
          ∙ empty_push parts look part (λ a. ap (λ (xs : List Slot). places_in xs a) c.new.ensures.items) none k b,
    )
