use Rattle.std.proofs.Common.{◌-◌}
use Rattle.ct_tiles.proofs.Subtrees.{edge_of_tiles}
use Rattle.ct_tiles.proofs.Enough.{edge_given}
use Rattle.ct_tiles.proofs.walk.root_at.Goals as goal

pub returns : goal.returns
returns g c =
    let given = g.T.TileSource.given c.args.tiles.now in
    record {
      all = λ D s f. c.root_at.ensures D (λ level i r. edge_of_tiles g.H.NodeHash.digest given D c.args.n level i s f r) f;
      needed = λ D s f. c.root_at.ensures D
          (λ level i r. edge_given g.H.NodeHash.digest given D c.args.n (c.args.n - 1) (c.args.n - 1) level i c.ranges.n.fits f s r) f;
    }
