use Rattle.std.proofs.Common.{◌≡◌, ◌<◌, ◌≤◌, ◌/◌, ◌%◌, List, ◌++◌, length, get_or, ap, sym, ◌∙◌, arith}
use Rattle.std.proofs.lemmas.Grind.{common_steps}
use Rattle.shared_list.specs.Flat.{concatenated}
use Rattle.shared_list.proofs.Sized.{chunks, in_parts, in_rest, in_rest-below, full_at}
use Rattle.shared_list.proofs.chunked.Chunked.at.Goals as goal

pub at-requires : goal.at-requires
at-requires g c =
    let cs = c.self.inside.full in
    let k = c.args.index / 128 in
    let below : k < length cs = grind (arith, common_steps) in
    let part = c.index-full-chunk.result in
    let there : part ≡ get_or cs k part =
    c.index-full-chunk.is ∙ ap (λ (l : List (List _)). get_or l k part) c.values-full.ensures in
    let size : length (get_or cs k part) ≡ 128 = full_at chunks cs k part c.self.invariant.each below in
    let same : length part ≡ length (get_or cs k part) = ap length there in
    omega arith

pub index-requires : goal.index-requires
index-requires g c =
    let cs = c.self.inside.full in
    let past : length cs ≤ c.args.index / 128 = grind (arith, common_steps) in
    let inside : c.args.index < length (concatenated cs ++ c.self.inside.last.items) = rw c.self.view_is c.requires in
    let at : c.args.index % 128 < length c.self.inside.last.items =
    in_rest-below chunks cs c.self.inside.last.items c.args.index c.self.invariant.each c.self.invariant.short past inside in
    let size = c.self.inside.last.ok in grind (arith, common_steps)

pub returns-then-chunk-full : goal.returns-then-chunk-full
returns-then-chunk-full g c =
    let cs = c.self.inside.full in
    let i = c.args.index in
    let k = i / 128 in
    let d = c.at.result.now in
    let below : k < length cs = grind (arith, common_steps) in
    let part = c.index-full-chunk.result in
    let there : part ≡ get_or cs k part =
    c.index-full-chunk.is ∙ ap (λ (l : List (List _)). get_or l k part) c.values-full.ensures in
    c.at.ensures
    ∙ ap (λ (l : List _). get_or l (i % 128) d) there
    ∙ sym (in_parts chunks cs c.self.inside.last.items i part d c.self.invariant.each below)
    ∙ ap (λ (l : List _). get_or l i d) c.self.view_is

pub returns-else-chunk-full : goal.returns-else-chunk-full
returns-else-chunk-full g c =
    let cs = c.self.inside.full in
    let i = c.args.index in
    let d = c.index.result.now in
    let past : length cs ≤ i / 128 = grind (arith, common_steps) in
    let inside : i < length (concatenated cs ++ c.self.inside.last.items) = rw c.self.view_is c.requires in
    c.index.ensures
    ∙ sym (in_rest chunks cs c.self.inside.last.items i d c.self.invariant.each c.self.invariant.short past inside)
    ∙ ap (λ (l : List _). get_or l i d) c.self.view_is
