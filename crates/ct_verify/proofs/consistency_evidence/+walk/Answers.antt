use Rattle.std.proofs.Common.{length, arith, sym, ◌∙◌, ap, Vec, Global, ℕ, List, take, drop, ◌-◌, ◌<◌, ◌≡◌, length-drop}
use Rattle.std.proofs.lemmas.List.{take_rest, length-take-le}
use Rattle.ct_verify.proofs.Leaves.{leaves_joined}
use Rattle.ct_verify.proofs.Walking.{split_within, whole_roots, left_roots, right_roots}
use Rattle.ct_verify.proofs.Clashes.{clash_of_whole, clash_in_left, clash_in_right}
use Rattle.ct_verify.proofs.consistency_evidence.+walk.Goals as goal

abbrev bytes : Vec ℕ Global → List ℕ
bytes l = l.items

pub returns-then-old-new-clause-rebuilt : goal.returns-then-old-new-clause-rebuilt
returns-then-old-new-clause-rebuilt g t c =
    whole_roots g.H.NodeHash.digest c.args.known (length c.args.old.now) (length c.args.new.now) c.args.first_root.now
    c.last_and_rest.result.0 c.chosen-value.result
    c.args.path.now c.last_and_rest.result.1.now c.if-old-new.true c.chosen-value.ensures c.last_and_rest.ensures.parts

pub returns-then-old-new-clause-found : goal.returns-then-old-new-clause-found
returns-then-old-new-clause-found g t c x y a =
    clash_of_whole g.H.NodeHash.digest bytes c.args.known c.args.old.now c.args.new.now c.args.first_root.now c.args.path.now _ c.if-old-new.true
    c.diverge-sides.ensures.found

pub returns-then-old-middle-clause-new : goal.returns-then-old-middle-clause-new
returns-then-old-middle-clause-new g t c =
    leaves_joined g.H.NodeHash.digest bytes c.args.new.now c.largest_power_below-middle.result c.walk-part.result.new_root
    c.root_of_leaves-other.result c.over_left.result.new_root
    (omega (arith, c.largest_power_below-middle.ensures.positive, c.largest_power_below-middle.ensures.below))
    c.largest_power_below-middle.ensures.split c.walk-part.ensures.new c.root_of_leaves-other.ensures c.over_left.ensures.new

pub returns-then-old-middle-clause-rebuilt : goal.returns-then-old-middle-clause-rebuilt
returns-then-old-middle-clause-rebuilt g t c x y a =
    let k = c.largest_power_below-middle.result in
    let l : length c.args.old.now < length c.args.new.now = omega arith in
    let i : length (take k c.args.new.now) ≡ k = length-take-le k c.args.new.now (omega (arith, c.largest_power_below-middle.ensures.below)) in
    let z = left_roots g.H.NodeHash.digest c.args.known (length c.args.old.now) (length c.args.new.now) k (length (take k c.args.new.now))
    c.args.first_root.now c.last_and_rest.result.0
    c.walk-part.result.first c.walk-part.result.second c.args.path.now c.last_and_rest.result.1.now l
    c.largest_power_below-middle.ensures.split c.if-old-middle.true i
    c.last_and_rest.ensures.parts c.walk-part.ensures.rebuilt x y a in
    (c.over_left.ensures.proof.0 ∙ z.0, c.over_left.ensures.proof.1 ∙ z.1)

pub returns-then-old-middle-clause-found : goal.returns-then-old-middle-clause-found
returns-then-old-middle-clause-found g t c =
    let l : length c.args.old.now < length c.args.new.now = omega arith in
    clash_in_left g.H.NodeHash.digest bytes c.args.known c.args.old.now c.args.new.now c.largest_power_below-middle.result
    c.args.first_root.now c.last_and_rest.result.0
    c.walk-part.result.first c.walk-part.result.second c.walk-part.result.new_root c.root_of_leaves-other.result c.args.path.now c.last_and_rest.result.1.now _ _
    c.requires.some l c.largest_power_below-middle.ensures.split c.if-old-middle.true c.last_and_rest.ensures.parts c.last_and_rest.ensures.length
    c.walk-part.ensures.rebuilt c.walk-part.ensures.new c.root_of_leaves-other.ensures c.walk-part.ensures.found c.over_left.ensures.found

pub returns-clause-old : goal.returns-clause-old
returns-clause-old g t c =
    let k = c.largest_power_below-middle.result in
    let positive = c.largest_power_below-middle.ensures.positive in
    let l : length c.args.old.now < length c.args.new.now = omega arith in
    let high : k < length c.args.old.now = omega arith in
    leaves_joined g.H.NodeHash.digest bytes c.args.old.now k c.diverge-sides-2.result.old_root c.walk-part-2.result.old_root c.over_right.result.old_root
    (omega (arith, positive))
    (sym (split_within (length c.args.old.now) (length c.args.new.now) k l c.largest_power_below-middle.ensures.split positive high))
    c.diverge-sides-2.ensures.old c.walk-part-2.ensures.old c.over_right.ensures.old

pub returns-clause-new : goal.returns-clause-new
returns-clause-new g t c =
    leaves_joined g.H.NodeHash.digest bytes c.args.new.now c.largest_power_below-middle.result c.diverge-sides-2.result.new_root
    c.walk-part-2.result.new_root c.over_right.result.new_root
    (omega (arith, c.largest_power_below-middle.ensures.positive, c.largest_power_below-middle.ensures.below))
    c.largest_power_below-middle.ensures.split c.diverge-sides-2.ensures.new c.walk-part-2.ensures.new c.over_right.ensures.new

pub returns-clause-rebuilt : goal.returns-clause-rebuilt
returns-clause-rebuilt g t c x y a =
    let k = c.largest_power_below-middle.result in
    let E = c.args.old.now in
    let D = c.args.new.now in
    let l : length E < length D = omega arith in
    let high : k < length E = omega arith in
    let i : length (take (length E - k) (drop k E)) ≡ length E - k = ap length (take_rest E k) ∙ length-drop k E in
    let j : length (take (length D - k) (drop k D)) ≡ length D - k = ap length (take_rest D k) ∙ length-drop k D in
    let z = right_roots g.H.NodeHash.digest c.args.known (length E) (length D) k (length (take (length E - k) (drop k E)))
    (length (take (length D - k) (drop k D)))
    c.args.first_root.now c.args.first_root.now c.last_and_rest.result.0
    c.walk-part-2.result.first c.walk-part-2.result.second c.args.path.now c.last_and_rest.result.1.now l c.largest_power_below-middle.ensures.split high i j
    c.last_and_rest.ensures.parts c.walk-part-2.ensures.rebuilt x y a in
    (c.over_right.ensures.proof.0 ∙ z.0, c.over_right.ensures.proof.1 ∙ z.1)

pub returns-clause-found : goal.returns-clause-found
returns-clause-found g t c =
    let l : length c.args.old.now < length c.args.new.now = omega arith in
    let high : c.largest_power_below-middle.result < length c.args.old.now = omega arith in
    clash_in_right g.H.NodeHash.digest bytes c.args.known c.args.old.now c.args.new.now c.largest_power_below-middle.result
    c.args.first_root.now c.last_and_rest.result.0
    c.walk-part-2.result.first c.walk-part-2.result.second c.diverge-sides-2.result.old_root c.walk-part-2.result.old_root c.diverge-sides-2.result.new_root
    c.walk-part-2.result.new_root
    c.args.path.now c.last_and_rest.result.1.now _ _ _
    l c.largest_power_below-middle.ensures.split c.largest_power_below-middle.ensures.positive high c.last_and_rest.ensures.parts c.last_and_rest.ensures.length
    c.walk-part-2.ensures.rebuilt c.diverge-sides-2.ensures.old c.walk-part-2.ensures.old c.diverge-sides-2.ensures.new c.walk-part-2.ensures.new
    c.diverge-sides-2.ensures.found c.walk-part-2.ensures.found c.over_right.ensures.found
