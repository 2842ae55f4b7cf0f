use Rattle.std.proofs.Common.{arith, sym, ◌∙◌, ap, Vec, Global, ℕ, List}
use Rattle.ct_verify.proofs.Leaves.{leaves_single, leaves_joined}
use Rattle.ct_verify.proofs.Clashes.{clash_of_leaves, clash_of_parts}
use Rattle.ct_tree.specs.Tree.{hash_leaf, split}
use Rattle.ct_verify.proofs.consistency_evidence.+diverge.Goals as goal

abbrev bytes : Vec ℕ Global → List ℕ
bytes l = l.items

pub returns-then-old-eq1-clause-old : goal.returns-then-old-eq1-clause-old
returns-then-old-eq1-clause-old g t c =
    let a = c.deref.ensures.value ∙ ap bytes c.index-old-0.is in
    c.beside_leaves.ensures.old ∙ ap (hash_leaf g.H.NodeHash.digest) a ∙ sym (leaves_single g.H.NodeHash.digest bytes c.args.old.now c.index-old-0.result c.if-old-eq1.true)

pub returns-then-old-eq1-clause-new : goal.returns-then-old-eq1-clause-new
returns-then-old-eq1-clause-new g t c =
    let b = c.deref-then-old-eq1.ensures.value ∙ ap bytes c.index-new-0.is in
    c.beside_leaves.ensures.new ∙ ap (hash_leaf g.H.NodeHash.digest) b
    ∙ sym (leaves_single g.H.NodeHash.digest bytes c.args.new.now c.index-new-0.result (sym c.requires.same ∙ c.if-old-eq1.true))

pub returns-then-old-eq1-clause-found : goal.returns-then-old-eq1-clause-found
returns-then-old-eq1-clause-found g t c =
    let a = c.deref.ensures.value ∙ ap bytes c.index-old-0.is in
    let b = c.deref-then-old-eq1.ensures.value ∙ ap bytes c.index-new-0.is in
    clash_of_leaves g.H.NodeHash.digest bytes c.args.old.now c.args.new.now c.index-old-0.result c.index-new-0.result _ c.if-old-eq1.true
    (sym c.requires.same ∙ c.if-old-eq1.true)
    (rw (a, b) at c.beside_leaves.ensures.found)

pub returns-clause-old : goal.returns-clause-old
returns-clause-old g t c =
    leaves_joined g.H.NodeHash.digest bytes c.args.old.now c.largest_power_below-middle.result c.diverge-left.result.old_root
    c.diverge-right.result.old_root c.over_parts.result.old_root
    (omega (arith, c.largest_power_below-middle.ensures.positive, c.largest_power_below-middle.ensures.below))
    c.largest_power_below-middle.ensures.split c.diverge-left.ensures.old c.diverge-right.ensures.old c.over_parts.ensures.old

pub returns-clause-new : goal.returns-clause-new
returns-clause-new g t c =
    leaves_joined g.H.NodeHash.digest bytes c.args.new.now c.largest_power_below-middle.result c.diverge-left.result.new_root
    c.diverge-right.result.new_root c.over_parts.result.new_root
    (omega (arith, c.requires.same, c.largest_power_below-middle.ensures.positive, c.largest_power_below-middle.ensures.below))
    (c.largest_power_below-middle.ensures.split ∙ ap split c.requires.same) c.diverge-left.ensures.new c.diverge-right.ensures.new c.over_parts.ensures.new

pub returns-clause-found : goal.returns-clause-found
returns-clause-found g t c =
    clash_of_parts g.H.NodeHash.digest bytes c.args.old.now c.args.new.now c.largest_power_below-middle.result
    c.diverge-left.result.old_root c.diverge-right.result.old_root c.diverge-left.result.new_root c.diverge-right.result.new_root _ _ _ c.requires.same
    (omega (arith, c.largest_power_below-middle.ensures.positive, c.largest_power_below-middle.ensures.below))
    c.largest_power_below-middle.ensures.split c.diverge-left.ensures.old c.diverge-right.ensures.old c.diverge-left.ensures.new c.diverge-right.ensures.new
    c.diverge-left.ensures.found c.diverge-right.ensures.found c.over_parts.ensures.found
