use Rattle.std.proofs.Common.{ℕ, List, [], length, drop, arith}
use Rattle.ct_tree.proofs.Mapped.{mapped}
use Rattle.ct_tree.specs.Tree.{hash_leaf}
use Rattle.ct_tree.proofs.batch.hash_all.Goals as goal

pub returns : goal.returns
returns g c =
    let f : g.row.L.Denot → List ℕ = λ leaf. hash_leaf g.H.NodeHash.digest (g.L.LeafBytes.bytes leaf) in
    let hashes = c.in_ok-hashes.hashes in
    let written = c.hash_each.new.hashes in
    mapped f c.args.leaves.now written (drop (length written) hashes.items) hashes.len
    (omega (arith, c.hash_each.ensures.length, c.deref_mut.ensures.len)) c.in_ok-hashes.ensures.len
    (λ i e h. c.hash_each.ensures.each i [] e (omega (arith, h, c.deref_mut.ensures.len, c.in_ok-hashes.ensures.len)))
