use Rattle.ct_tiles.proofs.Subtrees.{path_of_tiles}
use Rattle.ct_tiles.proofs.Enough.{path_given}
use Rattle.ct_tiles.proofs.walk.path.Goals as goal

pub returns : goal.returns
returns g c =
    let given = g.T.TileSource.given c.args.tiles.now in
    record {
      all = λ D s f. c.in_ok-path.ensures.hashes D (λ level i r. path_of_tiles g.H.NodeHash.digest given D c.args.m c.args.n level i s f r) f;
      needed = λ D s f. c.in_ok-path.ensures.hashes D
          (λ level i r. path_given g.H.NodeHash.digest given D c.args.m c.args.n level i c.ranges.n.fits f s r) f;
      length = c.in_ok-path.ensures.length;
    }
