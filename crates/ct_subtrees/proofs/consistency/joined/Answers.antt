use Rattle.std.proofs.Common.{[], ◌∷◌, ◌++◌, refl, sym, subst}
use Rattle.ct_subtrees.specs.Walk.{PartYields}
use Rattle.ct_subtrees.specs.declared.descent.Part.{Part}
use Rattle.ct_subtrees.proofs.Steps.{in_left, in_right, in_both}
use Rattle.ct_subtrees.proofs.Depths.{split_means, below-left, below-right, below-both}
use Rattle.ct_subtrees.proofs.consistency.joined.Goals as goal

pub returns-then-part-middle : goal.returns-then-part-middle
returns-then-part-middle g c r q y =
    let t = c.args.part in
    let k = c.largest_power_below-middle.result in
    let w = split_means t c.requires.split in
    in_left g.H.NodeHash.digest t.place.start t.place.end t.place.size k t.known r c.args.element.now c.args.below.subtree c.args.below.root
    c.node_hash.result (q ++ c.args.element.now ∷ []) q w c.largest_power_below-middle.ensures.split c.if-part-middle.true refl
    (subst (λ (u : Part). PartYields g.H.NodeHash.digest u r q (c.args.below.subtree, c.args.below.root))
    (sym (below-left t k w c.largest_power_below-middle.ensures.split c.if-part-middle.true)) y)
    c.node_hash.ensures

pub returns-then-part-middle-2 : goal.returns-then-part-middle-2
returns-then-part-middle-2 g c r q y =
    let t = c.args.part in
    let k = c.largest_power_below-middle.result in
    let w = split_means t c.requires.split in
    in_right g.H.NodeHash.digest t.place.start t.place.end t.place.size k t.known r c.args.element.now c.args.below.subtree c.args.below.root
    c.node_hash-root.result (q ++ c.args.element.now ∷ []) q w c.largest_power_below-middle.ensures.split c.if-part-middle-2.true c.requires.some refl
    (subst (λ (u : Part). PartYields g.H.NodeHash.digest u r q (c.args.below.subtree, c.args.below.root))
    (sym (below-right t k w c.largest_power_below-middle.ensures.split c.if-part-middle-2.true c.requires.some)) y)
    c.node_hash-root.ensures

pub returns : goal.returns
returns g c r q y =
    let t = c.args.part in
    let k = c.largest_power_below-middle.result in
    let w = split_means t c.requires.split in
    in_both g.H.NodeHash.digest t.place.start t.place.end t.place.size k t.known r c.args.element.now c.args.below.subtree c.args.below.root
    c.node_hash-2.result c.node_hash-root.result (q ++ c.args.element.now ∷ []) q w c.largest_power_below-middle.ensures.split
    c.if-part-middle-2.false c.if-part-middle.false refl
    (subst (λ (u : Part). PartYields g.H.NodeHash.digest u r q (c.args.below.subtree, c.args.below.root))
    (sym (below-both t k w c.largest_power_below-middle.ensures.split c.if-part-middle-2.false c.if-part-middle.false)) y)
    c.node_hash-2.ensures c.node_hash-root.ensures
