use Rattle.std.proofs.Common.{◌≡◌, ◌<◌, ◌≤◌, ◌/◌, ◌%◌, List, ◌++◌, length, get_or, ap, sym, ◌∙◌, arith}
use Rattle.std.proofs.lemmas.Grind.{common_steps}
use Rattle.shared_list.specs.Flat.{concatenated}
use Rattle.shared_list.proofs.Sized.{blocks, in_parts, in_rest, in_rest-below, full_at}
use Rattle.shared_list.proofs.list.SharedList.at.Goals as goal

pub at-requires : goal.at-requires
at-requires g c =
    let cs = c.self.inside.blocks in
    let k = c.args.index / 16384 in
    let below : k < length cs = grind (arith, common_steps) in
    let part = c.index-blocks-block.result in
    let there : part ≡ get_or cs k part =
    c.index-blocks-block.is ∙ ap (λ (l : List (List _)). get_or l k part) c.values-blocks.ensures in
    let size : length (get_or cs k part) ≡ 16384 = full_at blocks cs k part c.self.invariant.each below in
    let same : length part ≡ length (get_or cs k part) = ap length there in
    omega arith

pub at-requires-else-block-blocks : goal.at-requires-else-block-blocks
at-requires-else-block-blocks g c =
    let cs = c.self.inside.blocks in
    let past : length cs ≤ c.args.index / 16384 = grind (arith, common_steps) in
    let inside : c.args.index < length (concatenated cs ++ c.self.inside.row) = rw c.self.view_is c.requires in
    let at : c.args.index % 16384 < length c.self.inside.row =
    in_rest-below blocks cs c.self.inside.row c.args.index c.self.invariant.each c.self.invariant.short past inside in
    at

pub returns-then-block-blocks : goal.returns-then-block-blocks
returns-then-block-blocks g c =
    let cs = c.self.inside.blocks in
    let i = c.args.index in
    let k = i / 16384 in
    let d = c.at.result.now in
    let below : k < length cs = grind (arith, common_steps) in
    let part = c.index-blocks-block.result in
    let there : part ≡ get_or cs k part =
    c.index-blocks-block.is ∙ ap (λ (l : List (List _)). get_or l k part) c.values-blocks.ensures in
    c.at.ensures
    ∙ ap (λ (l : List _). get_or l (i % 16384) d) there
    ∙ sym (in_parts blocks cs c.self.inside.row i part d c.self.invariant.each below)
    ∙ ap (λ (l : List _). get_or l i d) c.self.view_is

pub returns-else-block-blocks : goal.returns-else-block-blocks
returns-else-block-blocks g c =
    let cs = c.self.inside.blocks in
    let i = c.args.index in
    let d = c.at-else-block-blocks.result.now in
    let past : length cs ≤ i / 16384 = grind (arith, common_steps) in
    let inside : i < length (concatenated cs ++ c.self.inside.row) = rw c.self.view_is c.requires in
    c.at-else-block-blocks.ensures
    ∙ sym (in_rest blocks cs c.self.inside.row i d c.self.invariant.each c.self.invariant.short past inside)
    ∙ ap (λ (l : List _). get_or l i d) c.self.view_is
