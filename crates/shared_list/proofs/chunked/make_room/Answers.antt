use Rattle.std.proofs.Common.{◌≡◌, List, [], ◌∷◌, ◌++◌, length, ap, ◌∙◌, arith}
use Rattle.std.proofs.lemmas.Grind.{common_steps}
use Rattle.shared_list.specs.Flat.{concatenated}
use Rattle.shared_list.proofs.Concatenated.{same-moved}
use Rattle.shared_list.proofs.Sized.{chunks, AllOf-push}
use Rattle.shared_list.proofs.chunked.make_room.Goals as goal

pub returns-clause-same : goal.returns-clause-same
returns-clause-same g c =
    let full : c.push.new.self ≡ c.args.full.now ++ c.args.last.now.items ∷ [] = grind (arith, common_steps) in
    let last : c.clear.new.self.items ≡ [] = grind (arith, common_steps) in
    ap (λ (cs : List (List _)). concatenated cs ++ c.clear.new.self.items) full
    ∙ ap (λ (r : List _). concatenated (c.args.full.now ++ c.args.last.now.items ∷ []) ++ r) last
    ∙ same-moved c.args.full.now c.args.last.now.items

pub returns-clause-each : goal.returns-clause-each
returns-clause-each g c =
    let full : c.push.new.self ≡ c.args.full.now ++ c.args.last.now.items ∷ [] = grind (arith, common_steps) in
    let size : length c.args.last.now.items ≡ 128 = grind (arith, common_steps) in
    rw full (AllOf-push chunks c.args.full.now c.args.last.now.items c.requires.each size)
