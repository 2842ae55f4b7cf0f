use Rattle.std.proofs.Common.{length, arith, sym, ◌∙◌, ap, Vec, Global, ℕ, List}
use Rattle.std.specs.Option.{option_map}
use Rattle.ct_verify.proofs.Leaves.{leaves_single, leaves_joined}
use Rattle.ct_tree.specs.Tree.{hash_leaf}
use Rattle.ct_verify.specs.Difference.{strings}
use Rattle.ct_verify.proofs.Comparing.{one_root, leaf_difference, left_difference, right_difference, left_rebuilt, right_rebuilt}
use Rattle.ct_verify.proofs.inclusion_evidence.+compare.Goals as goal

abbrev bytes : Vec ℕ Global → List ℕ
bytes l = l.items

pub returns-then-leaves-eq1-clause-listed : goal.returns-then-leaves-eq1-clause-listed
returns-then-leaves-eq1-clause-listed g t c =
    c.compare_leaves.ensures.listed ∙ ap (hash_leaf g.H.NodeHash.digest) (c.deref.ensures.value ∙ ap bytes c.index-leaves-0.is)
    ∙ sym (leaves_single g.H.NodeHash.digest bytes c.args.leaves.now c.index-leaves-0.result c.if-leaves-eq1.true)

pub returns-then-leaves-eq1-clause-rebuilt : goal.returns-then-leaves-eq1-clause-rebuilt
returns-then-leaves-eq1-clause-rebuilt g t c r a =
    c.compare_leaves.ensures.rebuilt
    ∙ one_root g.H.NodeHash.digest c.args.index (length c.args.leaves.now) (hash_leaf g.H.NodeHash.digest c.args.leaf.now)
    c.args.path.now r c.if-leaves-eq1.true a

pub returns-then-leaves-eq1-clause-difference : goal.returns-then-leaves-eq1-clause-difference
returns-then-leaves-eq1-clause-difference g t c r l a =
    let e = c.deref.ensures.value ∙ ap bytes c.index-leaves-0.is in
    leaf_difference g.H.NodeHash.digest bytes c.args.leaves.now c.index-leaves-0.result c.args.leaf.now c.args.index c.args.path.now
    (λ o. option_map (strings c.args.leaf.now o) c.compare_leaves.result.difference) c.if-leaves-eq1.true
    (rw e at c.compare_leaves.ensures.difference) r l a

pub returns-then-index-middle-clause-listed : goal.returns-then-index-middle-clause-listed
returns-then-index-middle-clause-listed g t c =
    leaves_joined g.H.NodeHash.digest bytes c.args.leaves.now c.largest_power_below-middle.result c.compare-side.result.listed
    c.root_of_leaves-other.result c.join.result.listed
    (omega (arith, c.largest_power_below-middle.ensures.positive, c.largest_power_below-middle.ensures.below))
    c.largest_power_below-middle.ensures.split c.compare-side.ensures.listed c.root_of_leaves-other.ensures
    (rw (c.under_node-then-index-middle.ensures.left, c.under_node-then-index-middle.ensures.right) at c.join.ensures.listed)

pub returns-then-index-middle-clause-rebuilt : goal.returns-then-index-middle-clause-rebuilt
returns-then-index-middle-clause-rebuilt g t c =
    left_rebuilt g.H.NodeHash.digest bytes c.args.leaves.now (hash_leaf g.H.NodeHash.digest c.args.leaf.now) c.args.index
    c.largest_power_below-middle.result c.args.path.now c.last_and_rest.result.1.now
    c.last_and_rest.result.0 c.compare-side.result.rebuilt c.join.result.rebuilt
    (omega (arith, c.largest_power_below-middle.ensures.positive, c.largest_power_below-middle.ensures.below))
    c.largest_power_below-middle.ensures.split c.if-index-middle.true c.last_and_rest.ensures.parts c.compare-side.ensures.rebuilt
    (rw (c.under_node.ensures.left, c.under_node.ensures.right) at c.join.ensures.rebuilt)

pub returns-then-index-middle-clause-difference : goal.returns-then-index-middle-clause-difference
returns-then-index-middle-clause-difference g t c r l a =
    left_difference g.H.NodeHash.digest bytes c.args.leaves.now c.args.leaf.now c.args.index c.largest_power_below-middle.result c.args.path.now
    c.last_and_rest.result.1.now
    c.last_and_rest.result.0 c.compare-side.result.rebuilt c.compare-side.result.listed c.root_of_leaves-other.result
    (λ o. option_map (strings c.args.leaf.now o) c.compare-side.result.difference) (λ o. option_map (strings c.args.leaf.now o) c.join.result.difference)
    (omega (arith, c.largest_power_below-middle.ensures.positive, c.largest_power_below-middle.ensures.below))
    c.largest_power_below-middle.ensures.split c.if-index-middle.true c.last_and_rest.ensures.parts c.compare-side.ensures.rebuilt
    c.compare-side.ensures.listed c.root_of_leaves-other.ensures c.compare-side.ensures.difference
    (λ o. rw (
      c.under_node.ensures.left,
      c.under_node.ensures.right,
      c.under_node-then-index-middle.ensures.left,
      c.under_node-then-index-middle.ensures.right,
    ) at c.join.ensures.difference c.args.leaf.now o)
    r a

pub returns-else-index-middle-clause-listed : goal.returns-else-index-middle-clause-listed
returns-else-index-middle-clause-listed g t c =
    leaves_joined g.H.NodeHash.digest bytes c.args.leaves.now c.largest_power_below-middle.result c.root_of_leaves-other-else-index-middle.result
    c.compare-side-else-index-middle.result.listed c.join-else-index-middle.result.listed
    (omega (arith, c.largest_power_below-middle.ensures.positive, c.largest_power_below-middle.ensures.below))
    c.largest_power_below-middle.ensures.split c.root_of_leaves-other-else-index-middle.ensures c.compare-side-else-index-middle.ensures.listed
    (rw (c.under_node-else-index-middle-2.ensures.left, c.under_node-else-index-middle-2.ensures.right) at c.join-else-index-middle.ensures.listed)

pub returns-else-index-middle-clause-rebuilt : goal.returns-else-index-middle-clause-rebuilt
returns-else-index-middle-clause-rebuilt g t c =
    right_rebuilt g.H.NodeHash.digest bytes c.args.leaves.now (hash_leaf g.H.NodeHash.digest c.args.leaf.now) c.args.index
    c.largest_power_below-middle.result c.args.path.now c.last_and_rest.result.1.now
    c.last_and_rest.result.0 c.compare-side-else-index-middle.result.rebuilt c.join-else-index-middle.result.rebuilt
    (omega (arith, c.largest_power_below-middle.ensures.positive, c.largest_power_below-middle.ensures.below))
    c.largest_power_below-middle.ensures.split (omega arith) c.last_and_rest.ensures.parts c.compare-side-else-index-middle.ensures.rebuilt
    (rw (c.under_node-else-index-middle.ensures.left, c.under_node-else-index-middle.ensures.right) at c.join-else-index-middle.ensures.rebuilt)

pub returns-else-index-middle-clause-difference : goal.returns-else-index-middle-clause-difference
returns-else-index-middle-clause-difference g t c r l a =
    right_difference g.H.NodeHash.digest bytes c.args.leaves.now c.args.leaf.now c.args.index c.largest_power_below-middle.result c.args.path.now
    c.last_and_rest.result.1.now
    c.last_and_rest.result.0 c.compare-side-else-index-middle.result.rebuilt c.root_of_leaves-other-else-index-middle.result
    c.compare-side-else-index-middle.result.listed
    (λ o. option_map (strings c.args.leaf.now o) c.compare-side-else-index-middle.result.difference)
    (λ o. option_map (strings c.args.leaf.now o) c.join-else-index-middle.result.difference)
    (omega (arith, c.largest_power_below-middle.ensures.positive, c.largest_power_below-middle.ensures.below))
    c.largest_power_below-middle.ensures.split (omega arith) c.last_and_rest.ensures.parts c.compare-side-else-index-middle.ensures.rebuilt
    c.root_of_leaves-other-else-index-middle.ensures c.compare-side-else-index-middle.ensures.listed c.compare-side-else-index-middle.ensures.difference
    (λ o. rw (
      c.under_node-else-index-middle.ensures.left,
      c.under_node-else-index-middle.ensures.right,
      c.under_node-else-index-middle-2.ensures.left,
      c.under_node-else-index-middle-2.ensures.right,
    ) at c.join-else-index-middle.ensures.difference c.args.leaf.now o)
    r l a
