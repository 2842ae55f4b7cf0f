use Rattle.ct_tiles.proofs.Subtrees.{proof_of_tiles}
use Rattle.ct_tiles.proofs.Enough.{proof_given}
use Rattle.ct_tiles.proofs.walk.proof.Goals as goal

pub returns : goal.returns
returns g c =
    let given = g.T.TileSource.given c.args.tiles.now in
    record {
      all = λ D s f. c.in_ok-proof.ensures.hashes D (λ level i r. proof_of_tiles g.H.NodeHash.digest given D c.args.m c.args.n level i s f r) f;
      needed = λ D s f. c.in_ok-proof.ensures.hashes D
          (λ level i r. proof_given g.H.NodeHash.digest given D c.args.m c.args.n level i c.ranges.n.fits f s r) f;
      length = c.in_ok-proof.ensures.length;
    }
