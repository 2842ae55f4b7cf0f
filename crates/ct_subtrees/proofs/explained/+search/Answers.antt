use Rattle.std.proofs.Common.{◌≡◌, length, arith, sym, ◌∙◌, ap, Some}
use Rattle.std.proofs.lemmas.Bool.{both_ways, eqb-true}
use Rattle.ct_tree.specs.Tree.{mth}
use Rattle.ct_subtrees.specs.Roots.{subtree_roots}
use Rattle.ct_subtrees.specs.Subtrees.{is_whole}
use Rattle.ct_subtrees.specs.declared.consistency.Hashes.{Hashes}
use Rattle.ct_subtrees.proofs.Searching.{whole_result, not_empty, search_above, differ_here, below, part_rebuilt}
use Rattle.ct_subtrees.proofs.Steps.{not_shown}
use Rattle.ct_subtrees.proofs.Whole.{whole_means, many}
use Rattle.ct_subtrees.proofs.explained.+search.Goals as goal

pub returns-then-is_all : goal.returns-then-is_all
returns-then-is_all g t c x u d =
    let z = whole_means c.args.start c.args.end (length c.args.leaf_hashes.now) (c.is_all.ensures.0 c.if-is_all.true) in
    whole_result g.H.NodeHash.digest c.args.start c.args.end c.args.known c.args.subtree_hash.now x c.args.leaf_hashes.now c.args.proof.now c.requires.some z.0 (omega (arith, c.requires.inside, z.1)) d

pub returns-then-is_empty : goal.returns-then-is_empty
returns-then-is_empty g t c x u d =
    absurd (not_empty g.H.NodeHash.digest c.args.start c.args.end (length c.args.leaf_hashes.now) c.args.known c.args.subtree_hash.now (x, mth g.H.NodeHash.digest c.args.leaf_hashes.now) c.args.proof.now c.requires.some c.requires.inside (not_shown (is_whole c.args.start c.args.end (length c.args.leaf_hashes.now)) c.is_all.result c.is_all.ensures.1 c.if-is_all.false)
    (eqb-true (length c.args.proof.now) 0 (sym c.is_empty.ensures ∙ c.if-is_empty.true)) d)

pub returns-in_default : goal.returns-in_default
returns-in_default g t c x u d =
    let w = (not_shown (is_whole c.args.start c.args.end (length c.args.leaf_hashes.now)) c.is_all.result c.is_all.ensures.1 c.if-is_all.false) in
    let z = below g.H.NodeHash.digest c.args.start c.args.end (length c.args.leaf_hashes.now) c.largest_power_below-middle.result c.args.known c.half_of-half.result.place.start c.half_of-half.result.place.end c.half_of-half.result.place.size c.half_of-half.result.known c.half_of-half.result.is_left c.args.subtree_hash.now c.last_and_rest.result.0 x (mth g.H.NodeHash.digest c.args.leaf_hashes.now) c.args.proof.now c.last_and_rest.result.1.now c.half_of-half.ensures.half c.requires.some
    c.largest_power_below-middle.ensures.split w c.last_and_rest.ensures d in
    absurd (part_rebuilt g.H.NodeHash.digest c.half_of-half.result.place.start c.half_of-half.result.place.end c.half_of-half.result.place.size c.half_of-half.result.known c.args.subtree_hash.now c.last_and_rest.result.0 (mth g.H.NodeHash.digest c.args.leaf_hashes.now) c.last_and_rest.result.1.now
    c.half_of-half.result.is_left (λ (v : Hashes). subtree_roots g.H.NodeHash.digest c.half_of-half.result.place.start c.half_of-half.result.place.end c.half_of-half.result.place.size c.half_of-half.result.known c.args.subtree_hash.now c.last_and_rest.result.1.now ≡ Some (v.subtree, v.root)) c.rebuilt.result
    c.half_of-half.ensures.some c.half_of-half.ensures.inside z c.rebuilt.ensures c.in_default.not-Ok)

pub returns-then-is_same_string : goal.returns-then-is_same_string
returns-then-is_same_string g t c x u d =
    let w = (not_shown (is_whole c.args.start c.args.end (length c.args.leaf_hashes.now)) c.is_all.result c.is_all.ensures.1 c.if-is_all.false) in
    let same = c.is_same_string.ensures.parts c.if-is_same_string.true in
    search_above g.H.NodeHash.digest c.args.start c.args.end c.largest_power_below-middle.result c.args.known c.half_of-half.result.place.start c.half_of-half.result.place.end c.half_of-half.result.place.size c.half_of-half.result.known c.half_of-half.result.is_left c.args.subtree_hash.now c.last_and_rest.result.0 x c.in-Ok.below.subtree c.in-Ok.below.root c.listed_node-listed.result.left c.listed_node-listed.result.right
    c.args.leaf_hashes.now c.part_of-part.result.now c.args.proof.now c.last_and_rest.result.1.now c.search.result c.half_of-half.ensures.half u c.requires.inside (many c.args.start c.args.end (length c.args.leaf_hashes.now) c.requires.some c.requires.inside w)
    c.largest_power_below-middle.ensures.split w c.last_and_rest.ensures c.part_of-part.ensures.part
    (c.part_of-part.ensures.length ∙ sym c.half_of-half.ensures.size) c.in-Ok.ensures d
    (sym c.node_over-proved.ensures.left ∙ same.0) (sym c.node_over-proved.ensures.right ∙ same.1)
    c.listed_node-listed.ensures.left c.listed_node-listed.ensures.right
    (λ z v e. c.search.ensures z v
    (ap (λ n. subtree_roots g.H.NodeHash.digest c.half_of-half.result.place.start c.half_of-half.result.place.end n c.half_of-half.result.known c.args.subtree_hash.now c.last_and_rest.result.1.now)
    (c.part_of-part.ensures.length ∙ sym c.half_of-half.ensures.size) ∙ e))

pub returns-else-is_same_string : goal.returns-else-is_same_string
returns-else-is_same_string g t c x u d =
    let w = (not_shown (is_whole c.args.start c.args.end (length c.args.leaf_hashes.now)) c.is_all.result c.is_all.ensures.1 c.if-is_all.false) in
    differ_here g.H.NodeHash.digest c.args.start c.args.end c.largest_power_below-middle.result c.args.known c.half_of-half.result.place.start c.half_of-half.result.place.end c.half_of-half.result.place.size c.half_of-half.result.known c.half_of-half.result.is_left c.args.subtree_hash.now c.last_and_rest.result.0 c.in-Ok.below.subtree x c.in-Ok.below.root c.node_over-proved.result.left c.node_over-proved.result.right
    c.args.leaf_hashes.now c.args.proof.now c.last_and_rest.result.1.now c.half_of-half.ensures.half c.requires.some (many c.args.start c.args.end (length c.args.leaf_hashes.now) c.requires.some c.requires.inside w)
    c.largest_power_below-middle.ensures.split w c.last_and_rest.ensures c.in-Ok.ensures d
    c.node_over-proved.ensures.left c.node_over-proved.ensures.right
    c.listed_node-listed.result.left c.listed_node-listed.result.right c.listed_node-listed.ensures.left c.listed_node-listed.ensures.right
    (λ e. both_ways c.is_same_string.result c.if-is_same_string.false (c.is_same_string.ensures.strings.1 e))
