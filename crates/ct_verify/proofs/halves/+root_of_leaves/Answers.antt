use Rattle.std.proofs.Common.{length, arith, sym, ◌∙◌, ap, Vec, Global, ℕ}
use Rattle.std.proofs.lemmas.Bool.{eqb-true}
use Rattle.ct_verify.proofs.Leaves.{leaves_nil, leaves_single, leaves_joined}
use Rattle.ct_tree.specs.Tree.{hash_leaf}
use Rattle.ct_verify.proofs.halves.+root_of_leaves.Goals as goal

pub returns-then-is_empty : goal.returns-then-is_empty
returns-then-is_empty g t c =
    let n = eqb-true (length c.args.leaves.now) 0 (sym c.is_empty.ensures ∙ c.if-is_empty.true) in
    c.hash.ensures ∙ sym (leaves_nil g.H.NodeHash.digest (λ (l : Vec ℕ Global). l.items) c.args.leaves.now n)

pub returns-then-leaves-eq1 : goal.returns-then-leaves-eq1
returns-then-leaves-eq1 g t c =
    c.leaf_hash.ensures ∙ ap (hash_leaf g.H.NodeHash.digest) (c.deref.ensures.value ∙ ap (λ (l : Vec ℕ Global). l.items) c.index-leaves-0.is)
    ∙ sym (leaves_single g.H.NodeHash.digest (λ (l : Vec ℕ Global). l.items) c.args.leaves.now c.index-leaves-0.result c.if-leaves-eq1.true)

pub returns-else-leaves-eq1 : goal.returns-else-leaves-eq1
returns-else-leaves-eq1 g t c =
    leaves_joined g.H.NodeHash.digest (λ (l : Vec ℕ Global). l.items) c.args.leaves.now c.largest_power_below-middle.result c.root_of_leaves-left.result
    c.root_of_leaves-right.result c.node_hash.result
    (omega (arith, c.largest_power_below-middle.ensures.positive, c.largest_power_below-middle.ensures.below))
    c.largest_power_below-middle.ensures.split c.root_of_leaves-left.ensures c.root_of_leaves-right.ensures c.node_hash.ensures
