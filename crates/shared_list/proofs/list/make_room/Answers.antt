use Rattle.std.proofs.Common.{◌≡◌, List, [], ◌∷◌, ◌++◌, length, ap, ◌∙◌, arith}
use Rattle.shared_list.specs.Flat.{concatenated}
use Rattle.shared_list.proofs.Concatenated.{same-moved}
use Rattle.shared_list.proofs.Sized.{blocks, AllOf-push}
use Rattle.shared_list.proofs.list.make_room.Goals as goal

pub returns-clause-same : goal.returns-clause-same
returns-clause-same g c =
    let full : c.push.new.self ≡ c.args.blocks.now ++ c.args.row.now ∷ [] = c.in_ok-push.ensures.ok
    ∙ ap (λ (b : List _). c.args.blocks.now ++ b ∷ []) c.in_ok-block.ensures in
    let last : c.clear.new.self ≡ [] = c.clear.ensures in
    ap (λ (cs : List (List _)). concatenated cs ++ c.clear.new.self) full
    ∙ ap (λ (r : List _). concatenated (c.args.blocks.now ++ c.args.row.now ∷ []) ++ r) last
    ∙ same-moved c.args.blocks.now c.args.row.now

pub returns-clause-each : goal.returns-clause-each
returns-clause-each g c =
    let full : c.push.new.self ≡ c.args.blocks.now ++ c.args.row.now ∷ [] = c.in_ok-push.ensures.ok
    ∙ ap (λ (b : List _). c.args.blocks.now ++ b ∷ []) c.in_ok-block.ensures in
    let size : length c.args.row.now ≡ 16384 = omega arith in
    rw full (AllOf-push blocks c.args.blocks.now c.args.row.now c.requires.each size)
