use Rattle.std.proofs.Common.{◌≡◌, ◌++◌, [], ◌∷◌, ap, ◌∙◌, arith}
use Rattle.std.proofs.lemmas.Grind.{common_steps}
use Rattle.shared_table.specs.Looked.{places_in}
use Rattle.shared_table.proofs.Sides.{lowered, part_put, places_in-push}
use Rattle.shared_table.proofs.slots.put.Goals as goal

pub returns : goal.returns
returns c = λ slots are.
    let part = c.index_mut-part.result.now in
    let items : c.push.new.self.items ≡ part.items ++ lowered c.args.slot ∷ [] = grind (arith, common_steps) in
    part_put c.args.parts.now.items slots c.args.slot part c.push.new.self c.index_mut-part.ensures.value
    (λ b. ap (λ (ys : _). places_in ys b) items ∙ places_in-push part.items (lowered c.args.slot) b)
    are
