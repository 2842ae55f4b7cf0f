use Rattle.std.proofs.Common.{refl}
use Rattle.ct_tiles.proofs.Subtrees.{node_in_tile}
use Rattle.ct_tiles.proofs.source.TileNodesNodeSource.leaf_at.Goals as goal

pub returns : goal.returns
returns g c = λ D s.
    node_in_tile g.H.NodeHash.digest (g.T.TileSource.given c.args.self.now.tiles.now) D 0 c.args.index c.hash.result s refl c.hash.ensures
