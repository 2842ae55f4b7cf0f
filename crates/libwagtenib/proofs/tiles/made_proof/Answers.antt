use Rattle.ct_tiles.specs.Handed.{contents_in}
use Rattle.libwagtenib.specs.Tiles.{proof_of}
use Rattle.libwagtenib.proofs.Made.{proof_made, fault_refuses}
use Rattle.libwagtenib.proofs.tiles.made_proof.Goals as goal

pub returns-in-Ok : goal.returns-in-Ok
returns-in-Ok c =
    proof_made c.args.first c.args.size (contents_in c.args.contents.now) c.in-Ok.found.items c.requires.positive c.requires.below c.requires.few
    c.in-Ok.ensures.whole c.in-Ok.ensures.proof c.in-Ok.ensures.hashes

pub returns-in-Err : goal.returns-in-Err
returns-in-Err c =
    fault_refuses (proof_of c.args.first c.args.size) (contents_in c.args.contents.now) c.in-Err.fault c.number_of.result (c.requires.positive, c.requires.below)
    c.requires.few c.in-Err.ensures.fault c.number_of.ensures
