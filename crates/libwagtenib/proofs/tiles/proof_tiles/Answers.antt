use Rattle.ct_tiles.specs.Needed.{proof_tiles}
use Rattle.libwagtenib.proofs.HashTiles.{all_named, proof_named}
use Rattle.libwagtenib.proofs.tiles.proof_tiles.Goals as goal

pub returns-clause-named : goal.returns-clause-named
returns-clause-named c =
    all_named c.tiles_for_proof.result (proof_tiles c.args.first c.args.size) (proof_named c.args.first c.args.size c.requires.below c.ranges.size.fits) c.tiles_for_proof.ensures
