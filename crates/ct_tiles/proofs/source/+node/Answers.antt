use Rattle.std.proofs.Common.{rules, arith, ◌+◌, ◌*◌}
use Rattle.ct_tiles.proofs.Subtrees.{left_inside, right_inside, small_index, joined_up, node_in_tile, half_given}
use Rattle.ct_tiles.proofs.source.+node.Goals as goal

pub returns-then-level-eq0 : goal.returns-then-level-eq0
returns-then-level-eq0 g t c = λ D s.
    node_in_tile g.H.NodeHash.digest (g.T.TileSource.given c.args.tiles.now) D c.args.level c.args.index c.hash.result s c.if-level-eq0.true c.hash.ensures

pub overflow_mul-index : goal.overflow_mul-index
overflow_mul-index g t c =
    omega (arith, c.ranges.size, small_index c.args.level c.args.index c.args.size (omega (arith, c.if-level-eq0.false)) c.requires)

pub node-left-requires : goal.node-left-requires
node-left-requires g t c κs within =
    let inside = left_inside c.args.level c.args.index c.args.size (omega (arith, c.if-level-eq0.false)) c.requires in
    search (rules, inside)

pub overflow_mul-index-2 : goal.overflow_mul-index-2
overflow_mul-index-2 g t c =
    omega (arith, c.ranges.size, small_index c.args.level c.args.index c.args.size (omega (arith, c.if-level-eq0.false)) c.requires)

pub overflow_add-index : goal.overflow_add-index
overflow_add-index g t c =
    omega (arith, c.ranges.size, small_index c.args.level c.args.index c.args.size (omega (arith, c.if-level-eq0.false)) c.requires)

pub node-right-requires : goal.node-right-requires
node-right-requires g t c κs within =
    let inside = right_inside c.args.level c.args.index c.args.size (omega (arith, c.if-level-eq0.false)) c.requires in
    search (rules, inside)

pub returns : goal.returns
returns g t c = λ D s.
    let H = g.H.NodeHash.digest in
    let given = g.T.TileSource.given c.args.tiles.now in
    let half = half_given H given D c.args.level c.args.index in
    joined_up H c.args.level c.args.index D c.node-left.result c.node-right.result c.node_hash.result (omega (arith, c.if-level-eq0.false))
    (c.node-left.ensures D (half (2 * c.args.index) (omega (arith, c.if-level-eq0.false)) (omega arith) (omega arith) s))
    (c.node-right.ensures D (half (2 * c.args.index + 1) (omega (arith, c.if-level-eq0.false)) (omega arith) (omega arith) s))
    c.node_hash.ensures
