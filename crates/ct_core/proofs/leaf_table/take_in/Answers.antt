use Rattle.std.proofs.Common.{◌≡◌, List, [], ◌∷◌, ◌++◌, length, ap, ◌∙◌, arith}
use Rattle.std.proofs.lemmas.Grind.{common_steps}
use Rattle.shared_table.specs.declared.slots.Slot.{Slot}
use Rattle.shared_table.specs.Looked.{places_in}
use Rattle.shared_table.proofs.Positions.{placed-push}
use Rattle.ct_core.specs.LeafHashes.{address_of}
use Rattle.ct_core.proofs.leaf_table.take_in.Goals as goal

pub returns-clause-noted : goal.returns-clause-noted
returns-clause-noted c =
    let s : Slot = record { address = c.address.result; place = c.size.result } in
    let pushed : c.push.new.self.items ≡ c.args.slots.now.items ++ s ∷ [] = grind (arith, common_steps) in
    λ k hashes count are a. ap (λ (xs : List Slot). places_in xs a) pushed
    ∙ placed-push address_of c.args.slots.now.items s k (length c.args.nodes.now) hashes c.args.hash.now c.address.ensures c.size.ensures count are a
