use Rattle.std.proofs.Common.{◌≡◌, ◌<◌, ◌≤◌, ◌==◌, true, false, length, ap, sym, ◌∙◌, arith}
use Rattle.std.proofs.lemmas.Grind.{common_steps}
use Rattle.std.specs.List.{find}
use Rattle.ct_tree.specs.declared.head.Head.{Head}
use Rattle.ct_core.specs.Answers.{is_size}
use Rattle.ct_core.specs.Settlement.{Log}
use Rattle.ct_core.proofs.HeadSteps.{IsPlaceOfSize, size_found, size_past, size_first, size_nowhere}
use Rattle.ct_core.proofs.published.Published.head_of_size.Goals as goal

pub returns-else-head-n-clause-size : goal.returns-else-head-n-clause-size
returns-else-head-n-clause-size c =
    let heads = c.self.inside.heads in
    let p = c.place_of_size-place.result in
    let is : IsPlaceOfSize heads c.args.n p = record { below = c.place_of_size-place.ensures.below; above = c.place_of_size-place.ensures.above } in
    let inside : p < length heads = grind (arith, common_steps) in
    let other : (c.at-head.result.now.tree_size == c.args.n) ≡ false = grind (arith, common_steps) in
    sym other ∙ size_found heads c.args.n p c.at-head.result.now c.self.invariant.lawful.sizes is inside c.at-head.ensures
    ∙ ap (λ (log : Log). is_size log c.args.n) c.self.view_is

pub returns-else-place-len-clause-size : goal.returns-else-place-len-clause-size
returns-else-place-len-clause-size c =
    let heads = c.self.inside.heads in
    let p = c.place_of_size-place.result in
    let is : IsPlaceOfSize heads c.args.n p = record { below = c.place_of_size-place.ensures.below; above = c.place_of_size-place.ensures.above } in
    let past : length heads ≤ p = grind (arith, common_steps) in
    size_past heads c.args.n p is past ∙ ap (λ (log : Log). is_size log c.args.n) c.self.view_is

pub returns-then-head-n-clause-first : goal.returns-then-head-n-clause-first
returns-then-head-n-clause-first c =
    let heads = c.self.inside.heads in
    let p = c.place_of_size-place.result in
    let is : IsPlaceOfSize heads c.args.n p = record { below = c.place_of_size-place.ensures.below; above = c.place_of_size-place.ensures.above } in
    let inside : p < length heads = grind (arith, common_steps) in
    let same : (c.at-head.result.now.tree_size == c.args.n) ≡ true = grind (arith, common_steps) in
    size_first heads c.args.n p c.at-head.result.now is inside c.at-head.ensures same
    ∙ ap (λ (log : Log). find (λ (h : Head). h.tree_size == c.args.n) log.heads) c.self.view_is

pub returns-else-head-n-clause-first : goal.returns-else-head-n-clause-first
returns-else-head-n-clause-first c = size_nowhere c.args.self.now.heads c.args.n (returns-else-head-n-clause-size c)

pub returns-else-place-len-clause-first : goal.returns-else-place-len-clause-first
returns-else-place-len-clause-first c = size_nowhere c.args.self.now.heads c.args.n (returns-else-place-len-clause-size c)
