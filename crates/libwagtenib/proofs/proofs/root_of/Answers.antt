use Rattle.std.proofs.Common.{◌≡◌, length, take, arith, sym, ◌∙◌}
use Rattle.std.proofs.lemmas.List.{length-take-le}
use Rattle.libwagtenib.proofs.proofs.root_of.Goals as goal

pub push-requires : goal.push-requires
push-requires c D s =
    let i = c.loop-leaf_hash.leaf_hash-index in
    let t = c.loop-leaf_hash.invariant in
    let few : length (take i c.args.leaf_hashes.now) ≡ i = length-take-le i c.args.leaf_hashes.now (omega arith) in
    let e : length D ≡ i = sym s.size ∙ t.size ∙ few in
    omega (arith, c.requires, e)
